-- The pieces that were pushed one after another are what stands behind the host.
use Rattle.std.proofs.Common.{rules, ◌≡◌, ◌++◌, ◌∙◌, List, ℕ, append_assoc, string_bytes, decimal, codes}
use Rattle.sp_rest.specs.Wire.Response.{line_end}
use Rattle.sp_rdp.proofs.post.after_host.Goals as goal

regroup : (f d e s l : List ℕ) → (((f ++ d) ++ ((e ++ s) ++ e)) ++ l) ++ e ≡ (((((f ++ d) ++ e) ++ s) ++ e) ++ l) ++ e
regroup f d e s l = simp append_assoc

pub returns : goal.returns
returns c =
    let len = decimal c.args.len in
    let lines = c.args.lines.now in
    let front = codes "\r\nContent-Type: application/octet-stream\r\nContent-Length: " in
    let middle = codes "\r\nSolace-Delivery-Mode: Persistent\r\n" in
    let s1 : string_bytes c.push_str.new.self ≡ front ++ len = search rules in
    let s2 : string_bytes c.push_str-2.new.self ≡ (front ++ len) ++ middle = search rules in
    let s3 : string_bytes c.push_str-3.new.self ≡ ((front ++ len) ++ middle) ++ lines = search rules in
    let s4 : string_bytes c.push_str-4.new.self ≡ (((front ++ len) ++ middle) ++ lines) ++ codes "\r\n" = search rules in
    s4 ∙ regroup front len line_end (codes "Solace-Delivery-Mode: Persistent") lines
