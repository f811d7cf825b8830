-- What is true of all eras.
use Rattle.std.specs.Prelude.{◌≡◌, ℕ, true, List}
use Rattle.cas_quorum.specs.declared.era.Era.{Era}
use Rattle.cas_quorum.specs.Quorum.{Shared}
use Rattle.cas_quorum.specs.Era.{holds_prep, holds_acc, Meet}

-- a prepare quorum of one era and an accept quorum of an era that it meets share an acceptor
abbrev pub QuorumsShare : Type 0
QuorumsShare = (a b : Era) → Meet a b → (prepared accepted : List ℕ)
    → holds_prep a prepared ≡ true → holds_acc b accepted ≡ true → Shared prepared accepted
