-- What contracts see of chains, and which list of items they stand for.
use Rattle.std.specs.Prelude.{◌≡◌, ◌<◌, ℕ, List, length, Option, Some}
use Rattle.sp_chain.specs.declared.node.Node.{Node}
use Rattle.sp_chain.specs.declared.node.Ends.{Ends}
use Rattle.sp_chain.specs.Items.{Item, chain_at}
use Rattle.sp_chain.specs.Links.{Seen, Linked, item_in, behind_in, before_in, end_at}

-- the nodes by key, the ends by chain, for how many more nodes there is room, and the bound of the keys
pub record Kept (T : Type 0) : Type 0 where
  pub nodes : List (Option (Node T))
  pub ends : List Ends
  pub room : ℕ
  pub capacity : ℕ

module _ {T : Type 0} where
  abbrev pub seen_in : List (Option (Node T)) → List Ends → Seen T
  seen_in nodes ends = record {
    item = item_in nodes;
    behind = behind_in nodes;
    before = before_in nodes;
    first = λ chain. (end_at ends chain).first;
    last = λ chain. (end_at ends chain).last;
  }

  -- chains stand for this list of items
  pub record Stands (kept : Kept T) (items : List (Item T)) : Type 0 where
    -- their nodes and ends are linked as the list says
    pub linked : Linked (seen_in kept.nodes kept.ends) items
    -- each item is in a chain that there is
    pub within : (key chain : ℕ) → chain_at items key ≡ Some chain → chain < length kept.ends
