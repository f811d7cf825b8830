-- What the words of a generator say of the next line of a load.
use Rattle.std.specs.Prelude.{ℕ, ◌+◌, ◌%◌}
use Rattle.rand_pcg.specs.Lcg.{Lcg}
use Rattle.rand_pcg.specs.Pcg.{pcg32}
use Rattle.cas_fate.specs.declared.generator.Drawn.{Drawn}

-- a line by three words: its caller from 1 on, its key below 32, and its kind below 10
abbrev pub line_by : ℕ → ℕ → ℕ → ℕ → Drawn
line_by proposers w1 w2 w3 = record { caller = 1 + w1 % proposers; key = w2 % 32; kind = w3 % 10 }

-- a line takes three words
abbrev pub drawn_line : ℕ → Lcg → Drawn × Lcg
drawn_line proposers g =
    (line_by proposers (pcg32 g).0 (pcg32 (pcg32 g).1).0 (pcg32 (pcg32 (pcg32 g).1).1).0, (pcg32 (pcg32 (pcg32 g).1).1).1)
