-- Settings are at most as many as there are attributes.
use Rattle.std.proofs.Common.{◌≡◌, ◌+◌, ◌<◌, ◌≤◌, ℕ, Bool, true, false, List, [], ◌∷◌, length, refl, arith, All}
use Rattle.std.specs.Prelude.{◌&&◌, nat_lt}
use Rattle.std.specs.List.{list_all, AllByRecursion}
use Rattle.std.proofs.lemmas.Bool.{ltb-true}
use Rattle.std.proofs.lemmas.List.Elements.{recursion_from_All}
use Rattle.sp_config.specs.declared.attr.Attr.{Attr}
use Rattle.sp_config.specs.declared.attr.Attr.TheVariants as attr
use Rattle.sp_config.specs.declared.setting.Setting.{Setting}
use Rattle.sp_config.specs.Ranges.{is_in_range}
use Rattle.sp_config.specs.Settings.{are_settings, number_of, rise_above}
use Rattle.sp_unit.specs.UnitBytes.{are_attributes, is_named}

pub split_and : (a b : Bool) → (a && b) ≡ true → (a ≡ true) × (b ≡ true)
split_and true b h = (refl, h)
split_and false b h = cc

pub and_true : (a b : Bool) → a ≡ true → b ≡ true → (a && b) ≡ true
and_true true b h k = k
and_true false b h k = h

pub at_most : (a : Attr) → number_of a ≤ 15
at_most attr.AccessType = omega arith
at_most attr.DeadMsgQueue = omega arith
at_most attr.EgressEnabled = omega arith
at_most attr.IngressEnabled = omega arith
at_most attr.MaxBindCount = omega arith
at_most attr.MaxDeliveredUnackedMsgsPerFlow = omega arith
at_most attr.MaxMsgSize = omega arith
at_most attr.MaxMsgSpoolUsage = omega arith
at_most attr.MaxRedeliveryCount = omega arith
at_most attr.MaxTtl = omega arith
at_most attr.Owner = omega arith
at_most attr.PartitionCount = omega arith
at_most attr.Permission = omega arith
at_most attr.RejectMsgToSenderOnDiscardBehavior = omega arith
at_most attr.RespectTtlEnabled = omega arith

few_above : (n : ℕ) (settings : List Setting) → n ≤ 15 → rise_above n settings ≡ true → n + length settings ≤ 15
few_above n [] h k = omega (arith, h)
few_above n (s ∷ settings) h k =
    let both = split_and (nat_lt n (number_of s.attr)) (rise_above (number_of s.attr) settings) k in
    omega (arith, ltb-true n (number_of s.attr) both.0, few_above (number_of s.attr) settings (at_most s.attr) both.1)

pub few : (settings : List Setting) → are_settings settings ≡ true → length settings ≤ 15
few settings h =
    omega (
      arith,
      few_above 0 settings (omega arith)
          (split_and (list_all (λ s. is_in_range s.attr s.value) settings) (rise_above 0 settings) h).1,
    )

pub few_settings : (settings : List Setting) → are_settings settings ≡ true → length settings < 256
few_settings settings h = omega (arith, few settings h)

pub all_pass : (settings : List Setting) → AllByRecursion (λ s. is_named s.value ≡ true) settings
    → list_all (λ s. is_named s.value) settings ≡ true
all_pass [] h = refl
all_pass (s ∷ settings) h = and_true _ _ h.0 (all_pass settings h.1)

pub are_named : (settings : List Setting) → are_settings settings ≡ true → All (λ s. is_named s.value ≡ true) settings
    → are_attributes settings ≡ true
are_named settings h each =
    and_true _ _ h (all_pass settings (recursion_from_All (λ s. is_named s.value ≡ true) settings each))
