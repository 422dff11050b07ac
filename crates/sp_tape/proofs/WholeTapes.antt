-- A tape of whole entries is answered to its end.
use Rattle.std.proofs.Common.{◌≡◌, ◌≤◌, ◌⊎◌, ℕ, ◌+◌, ◌-◌, Bool, IsTrue, inl, inr, List, [], ◌∷◌, ◌++◌, length, map, Option, refl, sym, ap, ◌∙◌, subst, append_assoc, length-append, arith}
use Rattle.std.specs.Prelude.{All}
use Rattle.std.proofs.lemmas.List.Elements.{All-head, All-tail}
use Rattle.sp_disk.specs.Disk.{Folder, Telling}
use Rattle.sp_disk.specs.declared.disk.File.TheVariants.{Journal as JournalFile}
use Rattle.sp_journal.specs.Damage.{IsDamaged, IsOtherVersion}
use Rattle.sp_store.specs.Refused.{IsGood, IsRefusedAt}
use Rattle.sp_store.proofs.Ledgers.{good_not_refused}
use Rattle.sp_tape.specs.declared.entry.Entry.{Entry}
use Rattle.sp_tape.specs.declared.status.Status.{Status}
use Rattle.sp_tape.specs.declared.status.Status.TheVariants.{Done, Usage, BadTape, ReadFault, WriteFault, DiskFault, Damaged, Memory, OtherVersion}
use Rattle.sp_tape.specs.Complete.{text_of, IsTapeOf}
use Rattle.sp_tape.specs.Entry.{entry_text, HasNoEntry, IsEntry}
use Rattle.sp_tape.specs.Reading.{Left}
use Rattle.sp_tape.specs.Run.{Turn, IsRun, state_left, tape_of}
use Rattle.sp_tape.specs.Runs.{Goes, IsBad, IsOpenError, Runs, RunsOrFails, longest_tape}
use Rattle.sp_tape.specs.State.{RunState}
use Rattle.sp_tape.proofs.Entries.{same_entry}
use Rattle.sp_tape.proofs.Reopened.{good_not_damaged, good_not_other}

-- what is left of entries behind those that were answered
pub record Behind (entries : List Entry) (turns : List Turn) (rest : List ℕ) : Type 0 where
  pub more : List Entry
  pub all : entries ≡ map (λ t. t.entry) turns ++ more
  pub text : rest ≡ text_of more
  pub valid : All IsEntry more

entry_some : (e : Entry) (xs : List ℕ) → entry_text e ++ xs ≡ [] → ⊥
entry_some e xs h = cc

pub behind : (trusted : Bool) (most : ℕ) (S : RunState) (turns : List Turn) → IsRun trusted most S turns → (entries : List Entry) (rest : List ℕ)
    → All IsEntry entries → text_of entries ≡ tape_of turns ++ rest → Behind entries turns rest
behind trusted most S [] run entries rest valid h = record { more = entries; all = refl; text = sym h; valid = valid }
behind trusted most S (t ∷ ts) run [] rest valid h =
    absurd (entry_some t.entry (tape_of ts ++ rest) (sym (append_assoc (entry_text t.entry) (tape_of ts) rest) ∙ sym h))
behind trusted most S (t ∷ ts) run (e ∷ es) rest valid h =
    let same = same_entry e t.entry (text_of es) (tape_of ts ++ rest) (All-head IsEntry e es valid) run.0.0 (h ∙ append_assoc (entry_text t.entry) (tape_of ts) rest) in
    let b = behind trusted most (state_left S t.told) ts run.1 es rest (All-tail IsEntry e es valid) same.1 in
    record {
      more = b.more;
      all = λ i. same.0 i ∷ b.all i;
      text = b.text;
      valid = b.valid;
    }

-- where entries are left, their bytes begin with one
left_begins : (more : List Entry) → All IsEntry more → (room : ℕ) → length (text_of more) ≤ room → HasNoEntry room (text_of more) → more ≡ []
left_begins [] valid room fits none = refl
left_begins (e ∷ es) valid room fits none =
    absurd (none e (All-head IsEntry e es valid) (let l = length-append (entry_text e) (text_of es) in omega (arith, l)) (text_of es, refl))

-- bytes are entries in one way only
pub one_way : (es fs : List Entry) → All IsEntry es → All IsEntry fs → text_of es ≡ text_of fs → es ≡ fs
one_way [] [] is_e is_f same = refl
one_way [] (f ∷ fs) is_e is_f same = absurd (entry_some f (text_of fs) (sym same))
one_way (e ∷ es) [] is_e is_f same = absurd (entry_some e (text_of es) same)
one_way (e ∷ es) (f ∷ fs) is_e is_f same =
    let first = same_entry e f (text_of es) (text_of fs) (All-head IsEntry e es is_e) (All-head IsEntry f fs is_f)
    same in
    let rest = one_way es fs (All-tail IsEntry e es is_e) (All-tail IsEntry f fs is_f) first.1 in
    λ i. first.0 i ∷ rest i

module _ {D : Type 0} (may_leave : D → Folder → Type 0) (faults : D → ℕ) (telling : Telling) (failed most : ℕ) (start : RunState)
    (new : D) (tape left wo wn : Option (List ℕ)) (entries : List Entry) (whole : IsTapeOf tape entries) (status : Status)
    (g : Goes may_leave faults telling failed most start new tape left wo wn status) where
  told : (bytes : List ℕ) → Left tape bytes → text_of entries ≡ bytes
  told bytes is = subst (λ (t : Option (List ℕ)). Left t bytes) whole.text is

  split : Behind entries g.turns g.rest
  split = behind telling.content most start g.turns g.run entries g.rest whole.valid (told (tape_of g.turns ++ g.rest) g.read)

  -- what is left isn't bad
  pub not_bad : IsBad (longest_tape - length (tape_of g.turns)) left g.rest → ⊥
  not_bad bad =
      let total = told (tape_of g.turns ++ g.rest) g.read in
      let size = length-append (tape_of g.turns) g.rest in
      let room : length (text_of split.more) ≤ longest_tape - length (tape_of g.turns) =
      subst (λ (zs : List ℕ). length zs ≤ longest_tape - length (tape_of g.turns)) split.text
      (let all : length (text_of entries) ≡ length (tape_of g.turns) + length g.rest =
      ap (λ (zs : List ℕ). length zs) total ∙ size in let f = whole.fits in omega (arith, all, f)) in
      let none = left_begins split.more split.valid (longest_tape - length (tape_of g.turns)) room
      (subst (HasNoEntry (longest_tape - length (tape_of g.turns))) split.text bad.none) in
      bad.some (split.text ∙ ap text_of none)

module _ {D : Type 0} (tells : D → Telling) (content : D → Folder) (may_leave : D → Folder → Type 0) (moment : D → ℕ)
    (left_since : D → ℕ → Folder → Type 0) (faults : D → ℕ) (old new : D) (most : ℕ) (tape left wo wn : Option (List ℕ))
    (entries : List Entry) (whole : IsTapeOf tape entries) (trusted : IsTrue (tells old).content) where
  ran : (status : Status) → Runs tells content may_leave moment left_since faults old new most tape left wo wn status
      → (status ≡ ReadFault → ⊥) → (status ≡ WriteFault → ⊥) → (status ≡ DiskFault → ⊥)
      → (status ≡ Done) ⊎ (status ≡ Memory)
  ran Done r read write disk = inl refl
  ran Usage r read write disk = absurd r.goes.ends
  ran (BadTape entry at) r read write disk =
      absurd (not_bad may_leave faults (tells old) (faults old) most r.start new tape left wo wn entries whole (BadTape entry at)
      r.goes r.goes.ends.0)
  ran ReadFault r read write disk = absurd (read refl)
  ran WriteFault r read write disk = absurd (write refl)
  ran DiskFault r read write disk = absurd (disk refl)
  ran (Damaged file at) r read write disk = absurd (r.goes.ends.1 trusted)
  ran Memory r read write disk = inr refl
  ran (OtherVersion found) r read write disk = absurd (r.goes.ends.1 trusted)

  failed : (status : Status) → IsOpenError status → (status ≡ DiskFault → ⊥)
      → ((file at : ℕ) → status ≡ Damaged file at → ⊥) → ((found : ℕ) → status ≡ OtherVersion found → ⊥)
      → (status ≡ Done) ⊎ (status ≡ Memory)
  failed Done cause disk damaged other = absurd cause
  failed Usage cause disk damaged other = absurd cause
  failed (BadTape entry at) cause disk damaged other = absurd cause
  failed ReadFault cause disk damaged other = absurd cause
  failed WriteFault cause disk damaged other = absurd cause
  failed DiskFault cause disk damaged other = absurd (disk refl)
  failed (Damaged file at) cause disk damaged other = absurd (damaged file at refl)
  failed Memory cause disk damaged other = inr refl
  failed (OtherVersion found) cause disk damaged other = absurd (other found refl)

  pub completes : (status : Status) → RunsOrFails tells content may_leave moment left_since faults old new most tape left wo wn status
      → IsGood (content old JournalFile)
      → ((file at : ℕ) → status ≡ Damaged file at
      → (file ≡ 0) × (IsDamaged at (content old JournalFile) ⊎ IsRefusedAt at (content old JournalFile)))
      → ((found : ℕ) → status ≡ OtherVersion found → IsOtherVersion found (content old JournalFile))
      → (status ≡ ReadFault → ⊥) → (status ≡ WriteFault → ⊥) → (status ≡ DiskFault → ⊥)
      → (status ≡ Done) ⊎ (status ≡ Memory)
  completes status (inl r) good damaged other read write disk = ran status r read write disk
  completes status (inr f) good damaged other read write disk =
      failed status f.cause disk
      (λ file at is. elim (damaged file at is).1 [
        | inl broken ↦ good_not_damaged at (content old JournalFile) good broken
        | inr wrong ↦ good_not_refused (content old JournalFile) at good wrong
      ])
      (λ found is. good_not_other found (content old JournalFile) good (other found is))
