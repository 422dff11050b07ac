-- Rows that a change leaves stand for the changed history.
use Rattle.std.proofs.Common.{◌≡◌, ◌≤◌, ℕ, ◌+◌, ◌^◌, true, [], ◌∷◌, ◌++◌, refl, ap}
use Rattle.sp_copies.specs.declared.made.NewCopy.{NewCopy}
use Rattle.sp_copies.specs.declared.closed.Closing.{Closing}
use Rattle.sp_copies.specs.History.{History, attempted, is_free, is_spooled, let_go, numbered, used_bytes, with_closed, with_given_back, with_held, with_made}
use Rattle.sp_copies.specs.Kept.{Kept, Records}
use Rattle.sp_copies.proofs.ClosedSound.{closed_sound}
use Rattle.sp_copies.proofs.HeldSound.{held_sound}
use Rattle.sp_copies.proofs.MadeSound.{made_sound}
use Rattle.sp_copies.proofs.ReturnedSound.{given_back_sound}

pub made_stands : (k : Kept) (c : NewCopy) (spare : ℕ) (H : History) → Records k H →
    used_bytes H c.endpoint + c.size ≤ 2 ^ 40 →
    Records (record {
      made = k.made ++ numbered k.next c ∷ [];
      closed = k.closed;
      held = k.held;
      attempts =
          k.attempts ++ record { copy = k.next; count = 0 } ∷ [];
      next = k.next + 1;
      spare = spare;
    }) (with_made c H)
made_stands k c spare H r fits = record {
  made = rw (r.made, r.next) refl;
  closed = r.closed;
  held = r.held;
  attempts = rw (r.attempts, r.next) refl;
  next = ap (λ n. n + 1) r.next;
  sound = made_sound H c r.sound fits;
}

pub closed_stands : (k : Kept) (copy : ℕ) (how : Closing) (moment spare : ℕ) (H : History) → Records k H →
    is_spooled H copy ≡ true →
    Records (record {
      made = k.made;
      closed = k.closed ++ record { copy = copy; how = how; moment = moment } ∷ [];
      held = let_go copy k.held;
      attempts = k.attempts;
      next = k.next;
      spare = spare;
    })
    (with_closed copy how moment H)
closed_stands k copy how moment spare H r open_now = record {
  made = r.made;
  closed = rw r.closed refl;
  held = ap (let_go copy) r.held;
  attempts = r.attempts;
  next = r.next;
  sound = closed_sound H copy how moment r.sound open_now;
}

pub held_stands : (k : Kept) (copy flow spare : ℕ) (H : History) → Records k H → is_free H copy ≡ true →
    Records (record {
      made = k.made;
      closed = k.closed;
      held = k.held ++ record { copy = copy; flow = flow } ∷ [];
      attempts = attempted copy k.attempts;
      next = k.next;
      spare = spare;
    }) (with_held copy flow H)
held_stands k copy flow spare H r free_now = record {
  made = r.made;
  closed = r.closed;
  held = rw r.held refl;
  attempts = ap (attempted copy) r.attempts;
  next = r.next;
  sound = held_sound H copy flow r.sound free_now;
}

pub given_back_stands : (k : Kept) (copy spare : ℕ) (H : History) → Records k H →
    Records (record {
      made = k.made;
      closed = k.closed;
      held = let_go copy k.held;
      attempts = k.attempts;
      next =
          k.next;
      spare = spare;
    }) (with_given_back copy H)
given_back_stands k copy spare H r = record {
  made = r.made;
  closed = r.closed;
  held = ap (let_go copy) r.held;
  attempts = r.attempts;
  next = r.next;
  sound = given_back_sound H copy r.sound;
}
