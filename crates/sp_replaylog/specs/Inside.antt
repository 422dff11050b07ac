-- How contracts see the fields of a log, and what is true of them.
use Rattle.std.specs.Prelude.{◌≡◌, ◌≤◌, [], false}
use Rattle.sp_replaylog.specs.Log.{LogView, bytes_of}
use Rattle.sp_replaylog.specs.declared.log.Log.TheInside.{Inside}

abbrev pub log_view : Inside → LogView
log_view l = record { enabled = l.enabled; maximum = l.maximum; entries = l.entries.items; room = l.entries.room }

pub record IsLog (l : Inside) : Type 0 where
  -- the sum is kept, and it is at most the maximum
  pub used : l.used ≡ bytes_of l.entries.items
  pub fits : l.used ≤ l.maximum
  -- a log that is off keeps nothing
  pub off : l.enabled ≡ false → l.entries.items ≡ []
