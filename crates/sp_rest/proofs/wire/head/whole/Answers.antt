use Rattle.std.proofs.Common.{arith, ◌≡◌, map, ap, None}
use Rattle.httparse.specs.Spans.{name_and_value}
use Rattle.sp_rest.specs.Wire.Request.{body_length}
use Rattle.sp_rest.proofs.Heads.{too_long, no_length}
use Rattle.sp_rest.proofs.wire.head.whole.Goals as goal

pub returns-then-spans-gt-MOST-clause-never : goal.returns-then-spans-gt-MOST-clause-never
returns-then-spans-gt-MOST-clause-never c =
    let at = c.requires.reads.1 in
    let size = at.len in
    too_long _ c.requires.reads.0 _ at.reads (let long = c.if-spans-gt-MOST.true in omega arith)

pub returns-in-None-clause-never : goal.returns-in-None-clause-never
returns-in-None-clause-never c =
    let at = c.requires.reads.1 in
    let e = ap body_length at.fields in
    let none : body_length (map name_and_value c.requires.reads.0.fields) ≡ None = cc (e, c.in-None.ensures) in
    no_length _ c.requires.reads.0 _ at.reads none
