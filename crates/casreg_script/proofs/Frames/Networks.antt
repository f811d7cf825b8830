-- What a network decides, by its table or by its fate.
use Rattle.std.proofs.Common.{◌≡◌, ◌≢◌, ℕ, Bool, true, false, nat_lt, List, ◌∷◌, refl, sym, ap, subst, ◌∙◌}
use Rattle.std.specs.Prelude.{◌%◌, if◌then◌else◌, Option, None}
use Rattle.rand_pcg.specs.Lcg.{Lcg}
use Rattle.rand_pcg.specs.Pcg.{pcg32}
use Rattle.cas_fate.specs.Seeded.{random_of, drawn_verdict, drawn_stray}
use Rattle.cas_fate.specs.declared.fate.Leg.{Leg}
use Rattle.cas_fate.specs.declared.fate.Verdict.{Verdict}
use Rattle.cas_fate.specs.declared.fate.Verdict.TheVariants.{Deliver, Lose, Twice, Late, Hold}
use Rattle.cas_fate.specs.declared.links.Links.{Links}
use Rattle.cas_fate.specs.declared.seeded.Seeded.{Seeded}
use Rattle.casreg_script.specs.Frames.Conditions as conditions
use Rattle.casreg_script.specs.Frames.Conditions.{Rule, NetworkView, Ruled, Drawn, DecidesVerdict, Names, verdict_of}
use Rattle.casreg_script.specs.Frames.Network as networks
use Rattle.casreg_script.specs.Frames.Network.{TableAgrees, IsNetwork, NetworkLeaves, Through}
use Rattle.casreg_script.specs.declared.network.Network.{Network}
use Rattle.casreg_script.specs.declared.network.Network.TheVariants as network

-- ---- one step of a network
-- what decides then is known too
pub then_known : {old new : Network} {R : NetworkView → NetworkView → Type 0} → Through old new R → (by : NetworkView) → IsNetwork old by → (next : NetworkView) × IsNetwork new next
then_known through by is = let leaves = through by is in (leaves.view, leaves.is)

-- a network that is seen otherwise
pub of_network : (old seen new : Network) (R : NetworkView → NetworkView → Type 0) → old ≡ seen → Through seen new R → Through old new R
of_network old seen new R same through by is = through by (subst (λ (n : Network). IsNetwork n by) same is)

-- ---- verdicts
pub ruled_decides : (old : Network) (links now : Links) (leg : Leg) (peer : ℕ) (again : Bool) (verdict : Verdict) → old ≡ network.Ruled links → ((rules : List Rule) → TableAgrees links rules → verdict ≡ verdict_of rules leg peer) → ((rules : List Rule) → TableAgrees links rules → TableAgrees now rules)
    → Through old (network.Ruled now) (λ by next. DecidesVerdict (leg, peer) by again verdict next)
ruled_decides old links now leg peer again verdict is says same by known = in_table by (subst (λ (n : Network). IsNetwork n by) is known)
  where
    in_table : (by : NetworkView) → IsNetwork (network.Ruled links) by → NetworkLeaves (network.Ruled now) (λ next. DecidesVerdict (leg, peer) by again verdict next)
    in_table by (networks.by_rules {rules = rules} agrees) = record {
      view = Ruled rules;
      is = networks.by_rules (same rules agrees);
      has = subst (λ (v : Verdict). DecidesVerdict (leg, peer) (Ruled rules) again v (Ruled rules)) (sym (says rules agrees)) conditions.by_rules;
    }

drawn_turn : (fate now : Seeded) (head : Leg × ℕ) (again : Bool) (verdict : Verdict) → (again ≡ false → (verdict, random_of now) ≡ drawn_verdict (random_of fate)) → (again ≡ true → (verdict ≡ Twice) × (now ≡ fate))
    → Through (network.Drawn fate) (network.Drawn now) (λ by next. DecidesVerdict head by again verdict next)
drawn_turn fate now head false verdict draws repeats by (networks.by_draw {random = random} is) =
    let drawn : (verdict, random_of now) ≡ drawn_verdict random = draws refl ∙ ap drawn_verdict is in
    record {
      view = Drawn (drawn_verdict random).1;
      is = networks.by_draw (ap (λ (p : Verdict × Lcg). p.1) drawn);
      has = subst (λ (v : Verdict). DecidesVerdict head (Drawn random) false v (Drawn (drawn_verdict random).1)) (sym (ap (λ (p : Verdict × Lcg). p.0) drawn)) conditions.by_draw;
    }
drawn_turn fate now head true verdict draws repeats by (networks.by_draw {random = random} is) = record {
  view = Drawn random;
  is = networks.by_draw (ap (λ (f : Seeded). random_of f) (repeats refl).1 ∙ is);
  has = subst (λ (v : Verdict). DecidesVerdict head (Drawn random) true v (Drawn random)) (sym (repeats refl).0) conditions.repeats;
}

pub drawn_decides : (old : Network) (fate now : Seeded) (head : Leg × ℕ) (again : Bool) (verdict : Verdict) → old ≡ network.Drawn fate → (again ≡ false → (verdict, random_of now) ≡ drawn_verdict (random_of fate)) → (again ≡ true → (verdict ≡ Twice) × (now ≡ fate))
    → Through old (network.Drawn now) (λ by next. DecidesVerdict head by again verdict next)
drawn_decides old fate now head again verdict is draws repeats = of_network old (network.Drawn fate) (network.Drawn now) (λ by next. DecidesVerdict head by again verdict next) is (drawn_turn fate now head again verdict draws repeats)

-- none of them holds a frame back
never_by : (a b c : Bool) → (if a then Deliver else (if b then Lose else (if c then Twice else Late))) ≢ Hold
never_by true b c is = absurd (cc is)
never_by false true c is = absurd (cc is)
never_by false false true is = absurd (cc is)
never_by false false false is = absurd (cc is)

pub never_drawn : (again : Bool) (random now : Lcg) (verdict : Verdict) (A : Type 0) → (again ≡ false → (verdict, now) ≡ drawn_verdict random) → (again ≡ true → (verdict ≡ Twice) × A) → verdict ≢ Hold
never_drawn false random now verdict A draws repeats held =
    never_by (nat_lt ((pcg32 random).0 % 100) 90) (nat_lt ((pcg32 random).0 % 100) 94) (nat_lt ((pcg32 random).0 % 100) 97) (sym (ap (λ (p : Verdict × Lcg). p.0) (draws refl)) ∙ held)
never_drawn true random now verdict A draws repeats held = absurd (cc (sym (repeats refl).0 ∙ held))

pub never_ruled : (old : Network) (links : Links) (verdict : Verdict) → old ≡ network.Ruled links → ((rules : List Rule) → TableAgrees links rules → verdict ≢ Hold) → (by : NetworkView) → IsNetwork old by → verdict ≢ Hold
never_ruled old links verdict is never by known = in_table by (subst (λ (n : Network). IsNetwork n by) is known)
  where
    in_table : (by : NetworkView) → IsNetwork (network.Ruled links) by → verdict ≢ Hold
    in_table by (networks.by_rules {rules = rules} agrees) = never rules agrees

-- ---- late frames
pub none_named : (links : Links) (late : ℕ) → Through (network.Ruled links) (network.Ruled links) (λ by next. Names late by None next)
none_named links late by (networks.by_rules {rules = rules} agrees) = record { view = Ruled rules; is = networks.by_rules agrees; has = conditions.none_by_rules }

pub drawn_named : (fate now : Seeded) (late : ℕ) (place : Option ℕ) → (place, random_of now) ≡ drawn_stray late (random_of fate) → Through (network.Drawn fate) (network.Drawn now) (λ by next. Names late by place next)
drawn_named fate now late place drawn by (networks.by_draw {random = random} is) =
    let draws : (place, random_of now) ≡ drawn_stray late random = drawn ∙ ap (drawn_stray late) is in
    record {
      view = Drawn (drawn_stray late random).1;
      is = networks.by_draw (ap (λ (p : Option ℕ × Lcg). p.1) draws);
      has = subst (λ (o : Option ℕ). Names late (Drawn random) o (Drawn (drawn_stray late random).1)) (sym (ap (λ (p : Option ℕ × Lcg). p.0) draws)) conditions.by_draw_of_late;
    }

-- ---- rules
-- one rule more
pub one_rule_more : (links now : Links) (rules : List Rule) (rule : Rule) → ((rules : List Rule) → TableAgrees links rules → TableAgrees now (rule ∷ rules)) → IsNetwork (network.Ruled links) (Ruled rules) → IsNetwork (network.Ruled now) (Ruled (rule ∷ rules))
one_rule_more links now rules rule sets (networks.by_rules agrees) = networks.by_rules (sets rules agrees)

-- ---- networks that stay
pub none_named_of : (old : Network) (links : Links) (late : ℕ) → old ≡ network.Ruled links → Through old old (λ by next. Names late by None next)
none_named_of old links late is = subst (λ (n : Network). Through n n (λ by next. Names late by None next)) (sym is) (none_named links late)

pub drawn_named_of : (old : Network) (fate now : Seeded) (late : ℕ) (place : Option ℕ) → old ≡ network.Drawn fate → (place, random_of now) ≡ drawn_stray late (random_of fate) → Through old (network.Drawn now) (λ by next. Names late by place next)
drawn_named_of old fate now late place is drawn = of_network old (network.Drawn fate) (network.Drawn now) (λ by next. Names late by place next) is (drawn_named fate now late place drawn)
