-- How far a run has come, and how it ends from there.
use Rattle.std.proofs.Common.{◌≡◌, ◌≤◌, ℕ, ◌+◌, ◌-◌, Bool, inl, inr, List, [], ◌∷◌, ◌++◌, length, Option, Some, None, refl, sym, ap, ◌∙◌, subst, append_assoc, append-nil, length-append, arith, cond}
use Rattle.std.specs.Option.{unwrap_or}
use Rattle.std.specs.Prelude.{count_by, flat_map, sum_by}
use Rattle.std.specs.Io.KnownBytes.{Consumes, Appends}
use Rattle.std.proofs.lemmas.Grind.{flat_map-append}
use Rattle.std.proofs.lemmas.List.Sums.{sum_by-append}
use Rattle.sp_disk.specs.Disk.{Folder, Telling}
use Rattle.sp_disk.specs.Everywhere.{Vouches}
use Rattle.sp_disk.specs.declared.disk.File.TheVariants.{Journal as JournalFile}
use Rattle.sp_ledger.specs.Sound.{IsLedger}
use Rattle.sp_tape.specs.declared.entry.Entry.{Entry}
use Rattle.sp_tape.specs.declared.entry.Kind.TheVariants.{Restart}
use Rattle.sp_tape.specs.declared.parse.Found.{Found}
use Rattle.sp_tape.specs.declared.reader.Next.TheVariants as next
use Rattle.sp_tape.specs.declared.turn.Served.TheVariants as served
use Rattle.sp_tape.specs.declared.status.Status.{Status}
use Rattle.sp_tape.specs.declared.status.Status.TheVariants.{Done, BadTape, ReadFault, WriteFault, Memory}
use Rattle.sp_tape.specs.Acts.{Acts, Told}
use Rattle.sp_tape.specs.Entry.{entry_text, IsEntry}
use Rattle.sp_tape.specs.Reading.{Reads, Left, Comes, longest_read}
use Rattle.sp_tape.specs.Run.{Turn, IsRun, answers_of, line_at, output_of, state_after, state_left, tape_of}
use Rattle.sp_tape.specs.Runs.{BeginsWithRestart, Ends, Goes, IsBad, RoseBy, Wrote, faults_told, is_fault, longest_tape}
use Rattle.sp_tape.specs.Serves.{WritesLine, fault_count}
use Rattle.sp_tape.specs.State.{IsRestart, MayLeave, RunState}
use Rattle.sp_store.specs.Units.{IsLedgerOf}
use Rattle.sp_tape.proofs.Fronts.{refused_is_none}
use Rattle.sp_tape.proofs.Holds.{run_holds, went}
use Rattle.sp_tape.proofs.Known.{at_end, reads_nothing, reads_both}
use Rattle.sp_tape.proofs.Pieces.{writes_nothing, writes_both}

-- a run goes on by one entry
IsRun-push : (trusted : Bool) (most : ℕ) (S : RunState) (ts : List Turn) (t : Turn) → IsRun trusted most S ts → IsEntry t.entry
    → Acts trusted most t.entry (state_after S ts) t.told → IsRun trusted most S (ts ++ t ∷ [])
IsRun-push trusted most S [] t r e a = ((e, a), tt)
IsRun-push trusted most S (u ∷ us) t r e a = (r.0, IsRun-push trusted most (state_left S u.told) us t r.1 e a)

pub state_after-push : (S : RunState) (ts : List Turn) (t : Turn)
    → state_after S (ts ++ t ∷ []) ≡ state_left (state_after S ts) t.told
state_after-push S [] t = refl
state_after-push S (u ∷ us) t = state_after-push (state_left S u.told) us t

flat-push : {X A : Type 0} (f : X → List A) (xs : List X) (x : X) → flat_map f (xs ++ x ∷ []) ≡ flat_map f xs ++ f x
flat-push f xs x = flat_map-append f xs (x ∷ []) ∙ ap (λ ys. flat_map f xs ++ ys) (append-nil (f x))

tape_of-push : (ts : List Turn) (t : Turn) → tape_of (ts ++ t ∷ []) ≡ tape_of ts ++ entry_text t.entry
tape_of-push ts t = flat-push (λ (u : Turn). entry_text u.entry) ts t

output_of-push : (ts : List Turn) (t : Turn) → output_of (ts ++ t ∷ []) ≡ output_of ts ++ flat_map line_at t.told
output_of-push ts t =
    ap (λ (us : List Told). flat_map line_at us) (flat-push (λ (u : Turn). u.told) ts t)
    ∙ flat_map-append line_at (answers_of ts) t.told

output_of-one : (t : Turn) → output_of (t ∷ []) ≡ flat_map line_at t.told
output_of-one t = ap (λ (us : List Told). flat_map line_at us) (append-nil t.told)

-- the tape is what was read and what is left
tape_left : (a b : Option (List ℕ)) (xs : List ℕ) → Consumes a b xs → Left a (xs ++ unwrap_or b [])
tape_left None b xs p = tt
tape_left (Some us) None xs p = absurd p
tape_left (Some us) (Some vs) xs p = p

reads_more : (a b c : Option (List ℕ)) (tape waiting all : List ℕ) → Consumes a b (tape ++ waiting) →
    Reads b c waiting all → Consumes a c (tape ++ all)
reads_more a b c tape waiting all p (more, q, e) =
    subst (λ zs. Consumes a c zs) (append_assoc tape waiting more ∙ ap (λ zs. tape ++ zs) (sym e))
    (reads_both a b c (tape ++ waiting) more p q)

not_empty : (xs ys : List ℕ) → (xs ≡ [] → ⊥) → xs ++ ys ≡ [] → ⊥
not_empty [] ys n e = n refl
not_empty (x ∷ xs) ys n e = cc

abbrev pub turn_of : Entry → Told → Turn
turn_of e t = record { entry = e; told = t ∷ [] }

-- how many faults of the disk answers told
abbrev pub told_faults : List Turn → ℕ
told_faults ts = count_by (λ (t : Told). is_fault t.answered) (answers_of ts)

pub told_faults-push : (ts : List Turn) (e : Entry) (t : Told)
    → told_faults (ts ++ turn_of e t ∷ []) ≡ told_faults ts + fault_count t.answered
told_faults-push ts e t =
    ap (λ (us : List Told). count_by (λ (u : Told). is_fault u.answered) us)
    (flat-push (λ (u : Turn). u.told) ts (turn_of e t))
    ∙ (sum_by-append (λ (u : Told). cond (is_fault u.answered) 1 0) (answers_of ts) (t ∷ [])
    ∙ ap (λ n. told_faults ts + n) (sum_by-one t))
  where
    sum_by-one : (u : Told) → sum_by (λ (v : Told). cond (is_fault v.answered) 1 0) (u ∷ []) ≡ fault_count u.answered
    sum_by-one u = omega arith

-- how far it has come; the state is that after the turns
pub record SoFar (trusted : Bool) (most : ℕ) (start : RunState) (left_old left_new written_old written_new : Option (List ℕ))
    (waiting : List ℕ) (count offset : ℕ) : Type 0 where
  pub begun : IsLedger start.ledger
  pub leads : IsLedgerOf start.units start.ledger
  pub turns : List Turn
  pub run : IsRun trusted most start turns
  pub read : Consumes left_old left_new (tape_of turns ++ waiting)
  pub wrote : Appends written_old written_new (output_of turns)
  pub counted : length turns ≡ count
  pub placed : length (tape_of turns) ≡ offset
  pub fits : offset ≤ longest_tape
  pub waits : length waiting ≤ longest_read

-- nothing was answered yet
abbrev pub begins : (trusted : Bool) (most : ℕ) (start : RunState) (left written : Option (List ℕ)) → IsLedger start.ledger
    → IsLedgerOf start.units start.ledger → SoFar trusted most start left left written written [] 0 0
begins trusted most start left written begun leads = record {
  begun = begun;
  leads = leads;
  turns = [];
  run = tt;
  read = reads_nothing left;
  wrote = writes_nothing written;
  counted = refl;
  placed = refl;
  fits = omega arith;
  waits = omega arith;
}

-- the disk at the end of a run
module _ {D : Type 0} (may_leave : D → Folder → Type 0) (faults : D → ℕ) (telling : Telling) (failed most : ℕ) (start : RunState) (new : D) where
  -- what it may leave, and how often it failed
  pub record Disked (turns : List Turn) (status : Status) : Type 0 where
    pub fault : RoseBy (faults_told turns status) failed (faults new)
    pub crash : Vouches telling → (image : Folder) → may_leave new image
        → MayLeave IsRestart (state_after start turns) (image JournalFile)

  abbrev Run : Option (List ℕ) → Option (List ℕ) → Option (List ℕ) → Option (List ℕ) → Status → Type 0
  Run lo ln wo wn status = Goes may_leave faults telling failed most start new lo ln wo wn status

  -- a run of these turns that ends so; the tape is what they took, what waits, and what was left before the last read
  ends : (lo lw ln wo wn : Option (List ℕ)) (status : Status) → IsLedger start.ledger → IsLedgerOf start.units start.ledger
      → (turns : List Turn) → IsRun telling.content most start turns → (more : List ℕ)
      → Consumes lo lw (tape_of turns ++ more) → length (tape_of turns) ≤ longest_tape
      → Ends telling.content ln (more ++ unwrap_or lw []) (length turns) (length (tape_of turns)) status
      → Wrote wo wn turns status → Disked turns status → (g : Run lo ln wo wn status) × (g.turns ≡ turns)
  ends lo lw ln wo wn status begun leads turns run more read fits ended wrote disk =
      let w = went telling.content most start begun leads turns run in (
        record {
          turns = turns;
          run = run;
          sound = w.each;
          holds = run_holds telling.content start turns w;
          order = w.order;
          rest = more ++ unwrap_or lw [];
          read = subst (λ zs. Left lo zs) (append_assoc (tape_of turns) more (unwrap_or lw []))
              (tape_left lo lw (tape_of turns ++ more) read);
          fits = fits;
          ends = ended;
          wrote = wrote;
          fault = disk.fault;
          crash = disk.crash;
        },
        refl,
      )

  module _ (lo ll ln wo wl wn : Option (List ℕ)) (waiting left : List ℕ) (n at : ℕ) (s : SoFar telling.content most start lo ll wo wl waiting n at) where
    fits_whole : length (tape_of s.turns) ≤ longest_tape
    fits_whole = subst (λ k. k ≤ longest_tape) (sym s.placed) s.fits

    pub ends_done : (room : ℕ) → Comes room ll ln waiting left next.End → Disked s.turns Done
        → (g : Run lo ln wo wl Done) × (g.turns ≡ s.turns)
    ends_done room (reads, end) disk =
        ends lo ln ln wo wl Done s.begun s.leads s.turns s.run []
        (reads_more lo ll ln (tape_of s.turns) waiting [] s.read reads) fits_whole (at_end ln end, end) s.wrote disk

    pub ends_bad : Comes (longest_tape - at) ll ln waiting left next.Bad → Disked s.turns (BadTape (n + 1) at)
        → (g : Run lo ln wo wl (BadTape (n + 1) at)) × (g.turns ≡ s.turns)
    ends_bad (all, reads, refused, no_further) disk =
        ends lo ln ln wo wl (BadTape (n + 1) at) s.begun s.leads s.turns s.run all
        (reads_more lo ll ln (tape_of s.turns) waiting all s.read reads) fits_whole (
          subst (λ k. IsBad (longest_tape - k) ln (all ++ unwrap_or ln [])) (sym s.placed) (record {
            some = not_empty all (unwrap_or ln []) refused.0;
            none = refused_is_none (longest_tape - at) ln all refused;
            read = all;
            split = refl;
            refused = refused;
            no_further = no_further s.waits;
          }),
          ap (λ m. m + 1) (sym s.counted),
          sym s.placed,
        )
        s.wrote disk

    pub ends_read_fault : Disked s.turns ReadFault → (g : Run lo ln wo wl ReadFault) × (g.turns ≡ s.turns)
    ends_read_fault disk = ends lo ll ln wo wl ReadFault s.begun s.leads s.turns s.run waiting s.read fits_whole tt s.wrote disk

    pub ends_memory : Disked s.turns Memory → (g : Run lo ln wo wl Memory) × (g.turns ≡ s.turns)
    ends_memory disk = ends lo ll ln wo wl Memory s.begun s.leads s.turns s.run waiting s.read fits_whole tt (inl s.wrote) disk

    -- an entry came
    module _ (found : Found) (came : Comes (longest_tape - at) ll ln waiting left (next.Found found)) where
      abbrev rest : List ℕ
      rest = entry_text found.entry ++ left

      read_rest : Consumes lo ln (tape_of s.turns ++ rest)
      read_rest = reads_more lo ll ln (tape_of s.turns) waiting rest s.read came.3

      -- it is a restart, and the journal wasn't opened
      pub ends_stopped : (status : Status) → found.entry.kind ≡ Restart
          → (BeginsWithRestart (rest ++ unwrap_or ln []) →
          Ends telling.content ln (rest ++ unwrap_or ln []) (length s.turns) (length (tape_of s.turns)) status)
          → Wrote wo wl s.turns status → Disked s.turns status → (g : Run lo ln wo wl status) × (g.turns ≡ s.turns)
      ends_stopped status kind ended wrote disk =
          ends lo ln ln wo wl status s.begun s.leads s.turns s.run rest read_rest fits_whole (ended (record {
            entry = found.entry;
            valid = came.0;
            kind = kind;
            behind = left ++ unwrap_or ln [];
            bytes = append_assoc (entry_text found.entry) left (unwrap_or ln []);
          })) wrote disk

      -- it was carried out
      module _ (t : Told) (acts : Acts telling.content most found.entry (state_after start s.turns) (t ∷ [])) where
        abbrev turn : Turn
        turn = turn_of found.entry t

        abbrev pub turns : List Turn
        turns = s.turns ++ turn ∷ []

        run : IsRun telling.content most start turns
        run = IsRun-push telling.content most start s.turns turn s.run came.0 acts

        -- the tape up to the end of the entry that came
        read : Consumes lo ln (tape_of turns ++ left)
        read =
            subst (λ zs. Consumes lo ln zs)
            (sym (append_assoc (tape_of s.turns) (entry_text found.entry) left)
            ∙ ap (λ zs. zs ++ left) (sym (tape_of-push s.turns turn))) read_rest

        placed : length (tape_of turns) ≡ at + found.used
        placed =
            ap (λ (zs : List ℕ). length zs) (tape_of-push s.turns turn)
            ∙ (length-append (tape_of s.turns) (entry_text found.entry)
            ∙ (ap (λ k. k + length (entry_text found.entry)) s.placed ∙ ap (λ k. at + k) came.1))

        fits : at + found.used ≤ longest_tape
        fits = let within = came.2 in let f = s.fits in omega arith

        fits_too : length (tape_of turns) ≤ longest_tape
        fits_too = subst (λ k. k ≤ longest_tape) (sym placed) fits

        line : (zs : List ℕ) → line_at t ≡ zs → output_of turns ≡ output_of s.turns ++ zs
        line zs e = output_of-push s.turns turn ∙ ap (λ ys. output_of s.turns ++ ys) (append-nil (line_at t) ∙ e)

        pub goes_on : Appends wl wn (line_at t) → SoFar telling.content most start lo ln wo wn left (n + 1) (at + found.used)
        goes_on wrote = record {
          begun = s.begun;
          leads = s.leads;
          turns = turns;
          run = run;
          read = read;
          wrote = subst (λ zs. Appends wo wn zs) (sym (line (line_at t) refl))
              (writes_both wo wl wn (output_of s.turns) (line_at t) s.wrote wrote);
          counted = length-append s.turns (turn ∷ []) ∙ ap (λ m. m + 1) s.counted;
          placed = placed;
          fits = fits;
          waits = came.4 s.waits;
        }

        pub goes_on_turns : (wrote : Appends wl wn (line_at t)) → (goes_on wrote).turns ≡ turns
        unfolding goes_on
        goes_on_turns wrote = refl

        pub ends_write_fault : WritesLine wl wn (line_at t) served.Fault → Disked turns WriteFault
            → (g : Run lo ln wo wn WriteFault) × (g.turns ≡ turns)
        ends_write_fault (front, back, text, wrote) disk =
            ends lo ln ln wo wn WriteFault s.begun s.leads turns run left read fits_too tt (record {
              before = s.turns;
              last = turn;
              split = refl;
              front = front;
              rest = back;
              lines = output_of-one turn ∙ (append-nil (line_at t) ∙ text);
              wrote = writes_both wo wl wn (output_of s.turns) front s.wrote wrote;
            }) disk

        -- the entry was carried out, and there was no memory for its line
        pub ends_unwritten : wn ≡ wl → Disked turns Memory → (g : Run lo ln wo wn Memory) × (g.turns ≡ turns)
        ends_unwritten same disk =
            ends lo ln ln wo wn Memory s.begun s.leads turns run left read fits_too tt (inr (record {
              before = s.turns;
              last = turn;
              split = refl;
              wrote = subst (λ (w : Option (List ℕ)). Appends wo w (output_of s.turns)) (sym same) s.wrote;
            })) disk
