-- The first space of a request stands before its target.
use Rattle.std.proofs.Common.{◌≡◌, ℕ, ◌==◌, inl, inr, Bool, true, false, not, List, [], ◌∷◌, ◌++◌, refl, sym, ap, ◌∙◌, subst, append_assoc}
use Rattle.std.specs.List.{list_all}
use Rattle.std.proofs.lemmas.Bool.{cond-true, cond-false, and_parts, and_from, eqb-true}
use Rattle.std.proofs.lemmas.List.Elements.{All-head, All-tail, All-cons, All-nil, All-append}
use Rattle.httparse.specs.Grammar.{LineEnd, crlf, lf, print_end, print_blank, AllPass, is_token_byte, is_uri_byte, EndsInTarget, MayBecomeRequest}
use Rattle.httparse.proofs.RunLemmas.{run_unique}
use Rattle.httparse.proofs.GrammarLemmas.{print_request-append}
use Rattle.sp_rest.specs.Wire.Targets.{is_in_target}

-- any byte but the space
abbrev pub is_solid : ℕ → Bool
is_solid b = not (b == 32)

Solid : List ℕ → Type 0
Solid bytes = AllPass is_solid bytes

space_is_none : is_token_byte 32 ≡ false
unfolding is_token_byte
space_is_none = refl

token_solid : (b : ℕ) → is_token_byte b ≡ true → is_solid b ≡ true
token_solid b token = by_test (b == 32) refl
  where
    by_test : (t : Bool) → (b == 32) ≡ t → not t ≡ true
    by_test true is =
        let no : is_token_byte b ≡ false = subst (λ (n : ℕ). is_token_byte n ≡ false) (sym (eqb-true b 32 is)) space_is_none in absurd (cc)
    by_test false is = refl

method_solid : (bytes : List ℕ) → AllPass is_token_byte bytes → AllPass is_solid bytes
method_solid [] all = All-nil _
method_solid (b ∷ bytes) all =
    All-cons (λ v. is_solid v ≡ true) b bytes (token_solid b (All-head (λ v. is_token_byte v ≡ true) b bytes all))
    (method_solid bytes (All-tail (λ v. is_token_byte v ≡ true) b bytes all))

end_solid : (end : LineEnd) → AllPass is_solid (print_end end)
end_solid crlf = All-cons (λ v. is_solid v ≡ true) 13 (10 ∷ []) refl (All-cons (λ v. is_solid v ≡ true) 10 [] refl (All-nil _))
end_solid lf = All-cons (λ v. is_solid v ≡ true) 10 [] refl (All-nil _)

blank_solid : (ends : List LineEnd) → AllPass is_solid (print_blank ends)
blank_solid [] = All-nil _
blank_solid (end ∷ ends) = All-append (λ v. is_solid v ≡ true) (print_end end) (print_blank ends) (end_solid end) (blank_solid ends)

uri_from : (bytes : List ℕ) → list_all is_uri_byte bytes ≡ true → AllPass is_uri_byte bytes
uri_from [] all = All-nil _
uri_from (b ∷ bytes) all =
    let parts = and_parts (is_uri_byte b) (list_all is_uri_byte bytes) all in
    All-cons (λ v. is_uri_byte v ≡ true) b bytes parts.0 (uri_from bytes parts.1)

uri_to : (bytes : List ℕ) → AllPass is_uri_byte bytes → list_all is_uri_byte bytes ≡ true
uri_to [] all = refl
uri_to (b ∷ bytes) all =
    and_from (is_uri_byte b) (list_all is_uri_byte bytes) (All-head (λ v. is_uri_byte v ≡ true) b bytes all)
    (uri_to bytes (All-tail (λ v. is_uri_byte v ≡ true) b bytes all))

solid_false : (b : ℕ) → is_solid b ≡ true → (b == 32) ≡ false
solid_false b solid = by_test (b == 32) refl
  where
    by_test : (t : Bool) → (b == 32) ≡ t → t ≡ false
    by_test true is = let no : is_solid b ≡ false = ap not is in absurd (cc)
    by_test false is = refl

after_solid : (x t : List ℕ) → AllPass is_solid x → is_in_target (x ++ 32 ∷ t) ≡ list_all is_uri_byte t
after_solid [] t all = refl
after_solid (b ∷ x) t all =
    cond-false (b == 32) _ _ (solid_false b (All-head (λ v. is_solid v ≡ true) b x all))
    ∙ after_solid x t (All-tail (λ v. is_solid v ≡ true) b x all)

-- the test is true of bytes that end within a target
pub tests_target : (bytes : List ℕ) → EndsInTarget bytes → is_in_target bytes ≡ true
tests_target bytes (blank, method, target, token, all, is) =
    ap is_in_target is
    ∙ after_solid (print_blank blank ++ method) target (All-append (λ v. is_solid v ≡ true) (print_blank blank) method (blank_solid blank)
    (method_solid method token.1))
    ∙ uri_to target all

-- where it is true, the bytes are cut at their first space
first_space : (bytes : List ℕ) → is_in_target bytes ≡ true → (x : List ℕ) × (t : List ℕ) × (bytes ≡ x ++ 32 ∷ t)
    × AllPass is_solid x × AllPass is_uri_byte t
first_space [] is = absurd (cc)
first_space (b ∷ bytes) is = by_test (first_space bytes) (b == 32) refl
  where
    by_test : (is_in_target bytes ≡ true → (x : List ℕ) × (t : List ℕ) × (bytes ≡ x ++ 32 ∷ t) × AllPass is_solid x × AllPass is_uri_byte t)
        → (u : Bool) → (b == 32) ≡ u → (x : List ℕ) × (t : List ℕ) × (b ∷ bytes ≡ x ++ 32 ∷ t) × AllPass is_solid x × AllPass is_uri_byte t
    by_test later true space =
        ([], bytes, ap (λ (n : ℕ). n ∷ bytes) (eqb-true b 32 space), All-nil _, uri_from bytes (sym (cond-true (b == 32) _ _ space) ∙ is))
    by_test later false other =
        let rest = later (sym (cond-false (b == 32) _ _ other) ∙ is) in
        (b ∷ rest.0, rest.1, ap (λ (t : List ℕ). b ∷ t) rest.2, All-cons (λ v. is_solid v ≡ true) b rest.0 (ap not other) rest.3, rest.4)

-- and where more bytes may come, they end within a target
pub ends_in_target : (bytes : List ℕ) → MayBecomeRequest bytes → is_in_target bytes ≡ true → EndsInTarget bytes
ends_in_target bytes (inr ends) is = ends
ends_in_target bytes (inl (more, h, reads)) is =
    let cut = first_space bytes is in
    let behind = h.target ++ 32 ∷ [] in
    let whole = sym (ap (λ (t : List ℕ). t ++ more) cut.2 ∙ append_assoc cut.0 (32 ∷ cut.1) more) ∙ reads.1 ∙ print_request-append h []
    ∙ sym (append_assoc (print_blank h.blank) h.method _) in
    let same = run_unique is_solid cut.0 (print_blank h.blank ++ h.method) _ _ cut.3
    (All-append (λ v. is_solid v ≡ true) (print_blank h.blank) h.method (blank_solid h.blank)
    (method_solid h.method reads.0.method.1)) refl refl whole in
    (h.blank, h.method, cut.1, reads.0.method, cut.4, cut.2 ∙ ap (λ (x : List ℕ). x ++ 32 ∷ cut.1) same.0)
