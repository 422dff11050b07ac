-- Tapes of whole entries.
use Rattle.std.specs.Prelude.{◌≡◌, ◌≤◌, ℕ, List, length, flat_map, All, Option, Some}
use Rattle.sp_tape.specs.declared.entry.Entry.{Entry}
use Rattle.sp_tape.specs.Entry.{entry_text, IsEntry}
use Rattle.sp_tape.specs.Runs.{longest_tape}

-- the bytes of entries, one after another
abbrev pub text_of : List Entry → List ℕ
text_of es = flat_map entry_text es

-- a source tells a tape of just these entries
pub record IsTapeOf (tape : Option (List ℕ)) (entries : List Entry) : Type 0 where
  pub valid : All IsEntry entries
  pub text : tape ≡ Some (text_of entries)
  pub fits : length (text_of entries) ≤ longest_tape
