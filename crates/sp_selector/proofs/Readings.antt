-- Steps of a reading that succeeded.
use Rattle.std.proofs.Common.{◌≡◌, ℕ, Bool, true, false, cond, List, [], ◌∷◌, Result, Ok, Err, refl, subst}
use Rattle.sp_selector.specs.declared.token.Mark.{Mark}
use Rattle.sp_selector.specs.declared.token.Token.{Token}
use Rattle.sp_selector.specs.declared.token.Token.TheVariants as token
use Rattle.sp_selector.specs.declared.tree.Operator.{Operator}
use Rattle.sp_selector.specs.Parser.{◌>>=◌, on_infix, on_mark, on_text}

pub bind_ok : {A B : Type 0} (r : Result A ℕ) (f : A → Result B ℕ) (y : B) → (r >>= f) ≡ Ok y → (x : A) × (r ≡ Ok x) × (f x ≡ Ok y)
bind_ok (Ok x) f y h = (x, refl, h)
bind_ok (Err k) f y h = cc

pub chosen : {A P : Type 0} (b : Bool) (x y z : A) → cond b x y ≡ z → (b ≡ true → x ≡ z → P) → (b ≡ false → y ≡ z → P) → P
chosen true x y z h yields other = yields refl h
chosen false x y z h yields other = other refl h

-- two readings that succeeded are one
abbrev pub IsRead : {A : Type 0} → Result A ℕ → A → Type 0
IsRead r x = r ≡ Ok x

ok_same : {A : Type 0} (x y : A) → IsRead (Ok x) y → x ≡ y
ok_same x y h = cc

-- what holds of what was read holds of what it is
pub moved : {A : Type 0} (P : A → List Token → Type 0) (e f : A) (ts rest : List Token) → P e ts → IsRead {A = A × List Token} (Ok (e, ts)) (f, rest) → P f rest
moved {A} P e f ts rest p h =
    let x : A × List Token = (e, ts) in
    let y : A × List Token = (f, rest) in
    let Q : A × List Token → Type 0 = λ z. P z.0 z.1 in
    subst Q (ok_same x y h) p

pub on_infix_cases : {A : Type 0} (P : A → Type 0) (ts : List Token) (f : Operator → List Token → A) (d : A) → ((op : Operator) (more : List Token) → ts ≡ token.Infix op ∷ more → P (f op more)) → P d → P (on_infix ts f d)
on_infix_cases P [] f d yields other = other
on_infix_cases P (token.Infix op ∷ more) f d yields other = yields op more refl
on_infix_cases P (token.Mark m ∷ more) f d yields other = other
on_infix_cases P (token.Name t ∷ more) f d yields other = other
on_infix_cases P (token.Number z ∷ more) f d yields other = other
on_infix_cases P (token.Text t ∷ more) f d yields other = other

pub on_mark_cases : {A : Type 0} (P : A → Type 0) (ts : List Token) (f : Mark → List Token → A) (d : A) → ((m : Mark) (more : List Token) → ts ≡ token.Mark m ∷ more → P (f m more)) → P d → P (on_mark ts f d)
on_mark_cases P [] f d yields other = other
on_mark_cases P (token.Infix op ∷ more) f d yields other = other
on_mark_cases P (token.Mark m ∷ more) f d yields other = yields m more refl
on_mark_cases P (token.Name t ∷ more) f d yields other = other
on_mark_cases P (token.Number z ∷ more) f d yields other = other
on_mark_cases P (token.Text t ∷ more) f d yields other = other

pub on_text_cases : {A : Type 0} (P : A → Type 0) (ts : List Token) (f : List ℕ → List Token → A) (d : A) → ((t : List ℕ) (more : List Token) → ts ≡ token.Text t ∷ more → P (f t more)) → P d → P (on_text ts f d)
on_text_cases P [] f d yields other = other
on_text_cases P (token.Infix op ∷ more) f d yields other = other
on_text_cases P (token.Mark m ∷ more) f d yields other = other
on_text_cases P (token.Name t ∷ more) f d yields other = other
on_text_cases P (token.Number z ∷ more) f d yields other = other
on_text_cases P (token.Text t ∷ more) f d yields other = yields t more refl
