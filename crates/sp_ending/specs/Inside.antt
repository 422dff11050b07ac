-- What contracts see of the fields.
use Rattle.sp_ending.specs.Drafts.{DraftView}
use Rattle.sp_ending.specs.Ends.{EndedView}
use Rattle.sp_ending.specs.declared.draft.Draft.TheInside as draft
use Rattle.sp_ending.specs.declared.ended.Ended.TheInside as ended
use Rattle.sp_plan.specs.Plan.{changes_of}

abbrev pub draft_view : draft.Inside → DraftView
draft_view d = record {
  changes = changes_of d.changes.items;
  told = d.told.items;
  notes = d.sheet.notes;
  next = d.next;
}

abbrev pub ended_view : ended.Inside → EndedView
ended_view e = record { changes = changes_of e.changes.items; told = e.told }
