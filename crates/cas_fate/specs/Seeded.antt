-- What a seeded fate answers, by the words of its generator.
use Rattle.std.specs.Prelude.{ℕ, ◌%◌, nat_lt, ◌==◌, ◌||◌, not, if◌then◌else◌, Option, Some, None}
use Rattle.rand_core.specs.Pcg32Seed.{pcg32_seed}
use Rattle.rand_pcg.specs.Lcg.{Lcg}
use Rattle.rand_pcg.specs.Pcg.{pcg32, pcg32_of_seed}
use Rattle.cas_fate.specs.declared.fate.Verdict.{Verdict}
use Rattle.cas_fate.specs.declared.fate.Verdict.TheVariants.{Deliver, Lose, Twice, Late}
use Rattle.cas_fate.specs.declared.seeded.Seeded.{Seeded}

-- the generator of a seed
abbrev pub generator_of_seed : ℕ → Lcg
generator_of_seed seed = pcg32_of_seed (pcg32_seed 16 seed)

-- where the generator of a seeded fate stands
abbrev pub random_of : Seeded → Lcg
random_of fate = fate.random

-- how many frames were harmed
abbrev pub harms_of : Seeded → ℕ
harms_of fate = fate.harms

-- of each hundred words 90 deliver, 4 lose, 3 repeat and 3 make late
abbrev pub verdict_by : ℕ → Verdict
verdict_by word =
    if nat_lt (word % 100) 90 then Deliver
    else (if nat_lt (word % 100) 94 then Lose
    else (if nat_lt (word % 100) 97 then Twice
    else Late))

-- a verdict takes one word
abbrev pub drawn_verdict : Lcg → Verdict × Lcg
drawn_verdict g = (verdict_by (pcg32 g).0, (pcg32 g).1)

-- whether no late frame is let in, by a word: where there is none, and by 15 of 16 words
abbrev pub drawn_stray : ℕ → Lcg → Option ℕ × Lcg
drawn_stray late g =
    if late == 0 || not ((pcg32 g).0 % 16 == 0) then (None, (pcg32 g).1)
    else (Some ((pcg32 (pcg32 g).1).0 % late), (pcg32 (pcg32 g).1).1)
