use Rattle.std.proofs.Common.{◌≡◌, ℕ, true, sym, subst}
use Rattle.std.proofs.lemmas.Bool.{not-true, not-false}
use Rattle.sp_copies.specs.declared.closed.Cause.TheVariants.{NotSpooled}
use Rattle.sp_copies.specs.declared.closed.Closing.TheVariants.{Discarded}
use Rattle.sp_copies.specs.History.{History, is_spooled, with_closed, with_made}
use Rattle.sp_copies.specs.Kept.{Records}
use Rattle.sp_copies.proofs.Shares.{closed_share, next_spooled, spooled_share}
use Rattle.sp_copies.proofs.copies.Copies.share.Goals as goal

pub close-requires : goal.close-requires
close-requires c =
    let G = c.requires.next.0 in
    let g = c.requires.next.1 in
    let number = c.make-copy.ensures.number G g in
    record {
      spooled = (
        with_made c.args.share.copy G,
        c.make-copy.ensures.made G g,
        subst
            (λ (n : ℕ). is_spooled (with_made c.args.share.copy G) n ≡ true) (sym number)
            (next_spooled G c.args.share.copy g.sound),
      );
    }

pub returns-then-not-share-clause-made : goal.returns-then-not-share-clause-made
returns-then-not-share-clause-made c H r =
    let K = with_made c.args.share.copy H in
    let closed = c.close.ensures.closed K (c.make-copy.ensures.made H r) in
    subst (λ (h : History). Records c.close.new.self h)
    (sym (closed_share c.args.moment c.args.share H (not-true _ c.if-not-share.true)))
    (subst (λ (n : ℕ). Records c.close.new.self (with_closed n (Discarded NotSpooled) c.args.moment K))
    (c.make-copy.ensures.number H r) closed)

pub returns-else-not-share-clause-made : goal.returns-else-not-share-clause-made
returns-else-not-share-clause-made c H r =
    subst (λ (h : History). Records c.make-copy.new.self h)
    (sym (spooled_share c.args.moment c.args.share H (not-false _ c.if-not-share.false)))
    (c.make-copy.ensures.made H r)
