use Rattle.std.proofs.Common.{◌∙◌, ◌-◌, ◌∷◌, ◌++◌, [], List, arith, sym, ap}
use Rattle.sp_replaylog.specs.Log.{bytes_of, longest_fitting}
use Rattle.sp_replaylog.proofs.Suffixes.{all_go, beside, fits}
use Rattle.sp_replaylog.specs.declared.entry.Entry.{Entry}
use Rattle.sp_replaylog.proofs.log.Log.add_enabled.Goals as goal

pub returns-then-entry-maximum-clause-entries : goal.returns-then-entry-maximum-clause-entries
returns-then-entry-maximum-clause-entries c =
    c.clear.ensures.entries ∙ sym (all_go c.args.self.now.maximum c.args.self.now.entries c.args.entry (omega arith))

pub push-requires-clause-fits : goal.push-requires-clause-fits
push-requires-clause-fits c =
    let cut = ap bytes_of c.cut.ensures.entries in
    let low = fits (c.maximum-maximum.result - c.args.entry.size) c.args.self.now.entries in
    omega arith

pub returns-clause-entries : goal.returns-clause-entries
returns-clause-entries c =
    c.push.ensures.entries
    ∙ ap (λ (es : List Entry). es ++ c.args.entry ∷ []) (c.cut.ensures.entries ∙ ap (λ n. longest_fitting (n - c.args.entry.size) c.args.self.now.entries) c.maximum-maximum.ensures)
    ∙ sym (beside c.args.self.now.maximum c.args.self.now.entries c.args.entry (omega arith))
