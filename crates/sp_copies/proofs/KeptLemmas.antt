-- The histories for which a store stands.
use Rattle.std.proofs.Common.{◌≡◌, List, sym, subst, ap, ◌∙◌}
use Rattle.sp_copies.specs.declared.closed.ClosedCopy.{ClosedCopy}
use Rattle.sp_copies.specs.declared.held.CopyAttempts.{CopyAttempts}
use Rattle.sp_copies.specs.declared.held.HeldCopy.{HeldCopy}
use Rattle.sp_copies.specs.declared.made.MadeCopy.{MadeCopy}
use Rattle.sp_copies.specs.History.{History}
use Rattle.sp_copies.specs.Kept.{Kept, Records}

-- the rows stand for it, and so does what is seen of them; and the other way round
pub seen_of : (kept seen : Kept) → kept ≡ seen → (H : History) → Records kept H → Records seen H
seen_of kept seen e H r = subst (λ k. Records k H) e r

pub kept_of : (kept seen : Kept) → kept ≡ seen → (H : History) → Records seen H → Records kept H
kept_of kept seen e H r = subst (λ k. Records k H) (sym e) r

same_history : (kept : Kept) (G H : History) → Records kept G → Records kept H → G ≡ H
same_history kept G H g h =
    ap (λ (l : List MadeCopy). record G { made = l }) (sym g.made ∙ h.made)
    ∙ (ap (λ (l : List ClosedCopy). record G { made = H.made; closed = l }) (sym g.closed ∙ h.closed)
    ∙ (ap (λ (l : List HeldCopy). record G { made = H.made; closed = H.closed; held = l }) (sym g.held ∙ h.held)
    ∙ (ap (λ (l : List CopyAttempts). record H { attempts = l; next = G.next }) (sym g.attempts ∙ h.attempts)
    ∙ ap (λ n. record H { next = n }) (sym g.next ∙ h.next))))

-- what is said of one history for which a store stands is so of each
pub of_each : (P : History → Type 0) (seen : Kept) → (G : History) × Records seen G × P G → (H : History) →
    Records seen H → P H
of_each P seen one H r = subst P (same_history seen one.0 H one.1 r) one.2

-- also of the one for which the rows stand
pub of_own : (P : History → Type 0) (kept seen : Kept) → kept ≡ seen → (G : History) × Records seen G × P G →
    (H : History) → Records kept H → P H
of_own P kept seen e one H r = of_each P seen one H (seen_of kept seen e H r)
