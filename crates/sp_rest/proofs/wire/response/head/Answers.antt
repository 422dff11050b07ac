-- The pieces that were pushed one after another are the head.
use Rattle.std.proofs.Common.{rules, ◌≡◌, ◌++◌, ◌∙◌, List, ℕ, append_assoc, string_bytes, decimal, codes}
use Rattle.sp_rest.specs.Wire.Response.{line_end}
use Rattle.sp_rest.proofs.wire.response.head.Goals as goal

regroup : (a b c d e f g l : List ℕ) → (((((a ++ b) ++ c) ++ d) ++ (l ++ (e ++ (l ++ f)))) ++ g) ++ (l ++ l)
    ≡ a ++ b ++ c ++ d ++ l ++ e ++ l ++ f ++ g ++ l ++ l
regroup a b c d e f g l = simp append_assoc

pub returns : goal.returns
returns c =
    let status = decimal c.args.status in
    let phrase = c.args.phrase.now in
    let len = decimal c.args.len in
    let middle = codes "\r\nContent-Type: application/json\r\nContent-Length: " in
    let s1 : string_bytes c.push_str.new.self ≡ codes "HTTP/1.1 " ++ status = search rules in
    let s2 : string_bytes c.push_str-2.new.self ≡ (codes "HTTP/1.1 " ++ status) ++ codes " " = search rules in
    let s3 : string_bytes c.push_str-3.new.self ≡ ((codes "HTTP/1.1 " ++ status) ++ codes " ") ++ phrase = search rules in
    let s4 : string_bytes c.push_str-4.new.self ≡ (((codes "HTTP/1.1 " ++ status) ++ codes " ") ++ phrase) ++ middle = search rules in
    let s5 : string_bytes c.push_str-5.new.self ≡ ((((codes "HTTP/1.1 " ++ status) ++ codes " ") ++ phrase)
    ++ middle) ++ len = search rules in
    let s6 : string_bytes c.push_str-6.new.self ≡ (((((codes "HTTP/1.1 " ++ status) ++ codes " ") ++ phrase) ++ middle) ++ len)
    ++ codes "\r\n\r\n" = search rules in
    s6 ∙ regroup (codes "HTTP/1.1 ") status (codes " ") phrase (codes "Content-Type: application/json")
    (codes "Content-Length: ") len line_end
