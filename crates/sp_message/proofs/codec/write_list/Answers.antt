use Rattle.std.proofs.Common.{rules, ◌≡◌, ◌+◌, ◌<◌, ◌++◌, ◌∷◌, All, length, take, get_or, subst, sym, refl, arith}
use Rattle.std.proofs.lemmas.Grind.{common_steps}
use Rattle.std.proofs.lemmas.List.Elements.{All-more}
use Rattle.sp_message.proofs.codec.write_list.Goals as goal

pub loop-item-preserved : goal.loop-item-preserved
loop-item-preserved g c =
    record {
      bytes = grind (arith, common_steps);
      valid = All-more g.C.Codec.valid c.args.items.now c.loop-item.item-index c.item-item.result (omega (arith, c.loop-item-test.true)) c.loop-item.invariant.valid (subst g.C.Codec.valid (c.item-item.is) c.in_ok-write.ensures.valid);
    }
