-- Units lead to one ledger, and the units of a part of a journal to one on the way.
use Rattle.std.proofs.Common.{◌≡◌, ◌∙◌, ℕ, List, [], ◌∷◌, ◌++◌, refl, sym, ap, subst, append_assoc, inl, inr}
use Rattle.sp_event.specs.declared.answer.Reply.{Reply}
use Rattle.sp_event.specs.declared.request.Event.{Event}
use Rattle.sp_journal.proofs.OneReading.{one_history}
use Rattle.sp_journal.proofs.Prefixes.{first_units}
use Rattle.sp_ledger.specs.Asked.{first_ledger}
use Rattle.sp_ledger.specs.Events.{outcome}
use Rattle.sp_ledger.specs.Ledger.{Ledger}
use Rattle.sp_ledger.specs.Step.{accepted}
use Rattle.sp_store.specs.Opening.{MayOpen}
use Rattle.sp_store.specs.Refused.{IsGood, IsRefusedAt}
use Rattle.sp_store.specs.Units.{Accepts, Leads, IsLedgerOf, restart_unit}
use Rattle.sp_unit.specs.UnitBytes.{UnitView}

-- one unit more
pub leads_on : (units : List UnitView) (unit : UnitView) (L M N : Ledger) → Leads L units M → Accepts unit M N
    → Leads L (units ++ unit ∷ []) N
leads_on [] unit L M N leads accepts = (N, subst (λ (K : Ledger). Accepts unit K N) leads accepts, refl)
leads_on (first ∷ units) unit L M N leads accepts =
    (leads.0, leads.1, leads_on units unit leads.0 M N leads.2 accepts)

-- the ledger after the first units
pub split : (xs ys : List UnitView) (L M : Ledger) → Leads L (xs ++ ys) M → (K : Ledger) × Leads L xs K × Leads K ys M
split [] ys L M leads = (L, refl, leads)
split (x ∷ xs) ys L M leads =
    let more = split xs ys leads.0 M leads.2 in
    (more.0, (leads.0, leads.1, more.1), more.2)

same_after : (M N : Ledger) (told others : List Reply) → accepted M told ≡ accepted N others → N ≡ M
same_after M N told others same = cc

one_after : (unit : UnitView) (L M N : Ledger) → Accepts unit L M → Accepts unit L N → N ≡ M
one_after unit L M N a b =
    let both : a.event ∷ [] ≡ b.event ∷ [] = sym a.one ∙ b.one in
    let event : a.event ≡ b.event = cc in
    let o : outcome unit.moment unit.caller a.event L ≡ accepted N b.told =
    ap (λ (e : Event). outcome unit.moment unit.caller e L) event ∙ b.step in
    same_after M N a.told b.told (sym a.step ∙ o)

pub one_ledger : (units : List UnitView) (L M N : Ledger) → Leads L units M → Leads L units N → N ≡ M
one_ledger [] L M N a b = b ∙ sym a
one_ledger (unit ∷ units) L M N a b =
    let after : b.0 ≡ a.0 = one_after unit L a.0 b.0 a.1 b.1 in
    one_ledger units a.0 M N a.2 (subst (λ (K : Ledger). Leads K units N) after b.2)

pub good_not_refused : (file : List ℕ) (place : ℕ) → IsGood file → IsRefusedAt place file → ⊥
good_not_refused file place good refused =
    let units = good.0 in
    let L = good.2.0 in
    let b = refused.before in
    let u = refused.unit in
    let begins = first_units (b ++ u ∷ []) units refused.next file refused.follows good.1 in
    let whole : Leads first_ledger (b ++ u ∷ begins.0) L =
    subst (λ (us : List UnitView). Leads first_ledger us L) (begins.1 ∙ append_assoc b (u ∷ []) begins.0) good.2.1 in
    let way = split b (u ∷ begins.0) first_ledger L whole in
    let same : way.0 ≡ refused.ledger = one_ledger b first_ledger refused.ledger way.0 refused.is_ledger way.1 in
    refused.none way.2.0 (subst (λ (K : Ledger). Accepts u K way.2.0) same way.2.1)

pub good_still : (file old new : List ℕ) → MayOpen file old new → IsGood old → IsGood new
good_still file old new (inl same) good = subst IsGood (sym same) good
good_still file old new (inr (inl kept)) good =
    let units : good.0 ≡ kept.0 = one_history good.0 kept.0 old good.1 kept.1 in
    (kept.0, kept.2, (good.2.0, subst (λ (us : List UnitView). IsLedgerOf us good.2.0) units good.2.1))
good_still file old new (inr (inr more)) good = (more.0 ++ restart_unit ∷ [], more.4, (more.1, more.3))
