use Rattle.std.proofs.Common.{rules, ◌≡◌, Some, ap, sym, ◌∙◌, option_map}
use Rattle.slab.specs.Slab.{get}
use Rattle.sp_chain.specs.Items.{chain_at}
use Rattle.sp_chain.specs.Links.{end_at, item_of}
use Rattle.sp_chain.proofs.Placed.{inserted, within-inserted}
use Rattle.sp_chain.proofs.chains.Chains.insert_before.Goals as goal

pub returns-clause-items : goal.returns-clause-items
returns-clause-items g c L s =
    let st = rw (← c.self.view_is) at s in
    let ends = c.self.inside.ends.items in
    let node = c.in_ok-node.node.now in
    let key = c.insert_reserved-key.result in
    let was : get c.self.inside.nodes c.args.next ≡ Some node = sym c.get.ensures ∙ search rules in
    let vacant = c.insert_reserved-key.ensures.was_vacant in
    let home : chain_at L c.args.next ≡ Some node.chain =
    ap (option_map (λ x. x.chain)) (sym (st.linked.item c.args.next)
    ∙ ap (option_map (item_of c.args.next)) was) in
    let mine : c.ends_of-ends.result ≡ end_at ends node.chain =
    c.ends_of-ends.ensures ∙ ap (λ es. end_at es node.chain) c.deref.ensures.value in
    let in_range = st.within c.args.next node.chain home in
    record {
      linked = inserted c.self.inside.nodes c.insert_reserved-key.new.self c.set_behind.new.nodes
          c.set_before.new.nodes ends c.set_ends.new.ends.items key c.args.next node c.args.value L st.linked
          was vacant
          c.insert_reserved-key.ensures.updates c.set_behind.ensures.links c.set_before.ensures.links in_range
          (rw (← mine, ← c.past-first.ensures) c.set_ends.ensures.ends);
      within = within-inserted L c.args.next key node.chain c.args.value _ _ home (sym (st.linked.item key)
          ∙ ap (option_map (item_of key)) vacant) st.within c.set_ends.ensures.len;
    }
