-- The pieces that were pushed one after another are the line.
use Rattle.std.proofs.Common.{rules, ◌≡◌, ◌++◌, string_bytes, codes}
use Rattle.sp_rdp.specs.Post.{value_text, kind_word}
use Rattle.sp_rdp.proofs.post.line.Goals as goal

pub returns : goal.returns
returns c =
    let name = c.args.property.now.name in
    let value = value_text c.args.property.now.value in
    let word = kind_word c.args.property.now.value in
    let front = codes "Solace-User-Property-" in
    let s1 : string_bytes c.push_str.new.self ≡ front ++ name = search rules in
    let s2 : string_bytes c.push_str-2.new.self ≡ (front ++ name) ++ codes ": " = search rules in
    let s3 : string_bytes c.push_str-3.new.self ≡ ((front ++ name) ++ codes ": ") ++ value = search rules in
    let s4 : string_bytes c.push_str-4.new.self ≡ (((front ++ name) ++ codes ": ") ++ value) ++ codes "; type=" = search rules in
    let s5 : string_bytes c.push_str-5.new.self ≡ ((((front ++ name) ++ codes ": ") ++ value) ++ codes "; type=") ++ word = search rules in
    let s6 : string_bytes c.push_str-6.new.self ≡ (((((front ++ name) ++ codes ": ") ++ value) ++ codes "; type=") ++ word)
    ++ codes "\r\n" = search rules in
    s6
