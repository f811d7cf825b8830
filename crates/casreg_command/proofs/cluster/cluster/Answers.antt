use Rattle.std.proofs.Common.{◌≡◌, Option, Some, map, string_bytes, refl, sym, ◌∙◌, subst, inl, inr}
use Rattle.std.specs.Prelude.{MatchOption}
use Rattle.casreg_command.specs.Causes.{ReadsLines, no_words_read}
use Rattle.casreg_command.specs.Words.{AreWords}
use Rattle.casreg_command.specs.declared.words.Request.{Request}
use Rattle.casreg_command.specs.declared.words.Request.TheVariants as request
use Rattle.casreg_command.proofs.Blame.{blamed}
use Rattle.cas_store.proofs.Keeping.{stored}
use Rattle.casreg_command.proofs.Written.{wrote_nothing, wrote_of, completes_of, load_completes_of, no_end, no_memory_completes}
use Rattle.cas_store.specs.Rack.{rack_meaning}
use Rattle.casreg_command.proofs.cluster.cluster.Given.{Over}
use Rattle.casreg_command.proofs.cluster.cluster.Goals as goal

are_words : (g : Over) (c : goal.After-run g) → AreWords (map string_bytes c.args.words.now) c.in-Ok-Some.request
are_words g c = subst (λ (o : Option Request). MatchOption o ((other : Request) → AreWords (map string_bytes c.args.words.now) other → ⊥) (AreWords (map string_bytes c.args.words.now))) c.in-Ok-Some.field-0-is c.in-Ok-Some.ensures.words

-- the words ask for nothing else
only_one : (g : Over) (c : goal.After-run g) (other : Request) → AreWords (map string_bytes c.args.words.now) other → c.in-Ok-Some.request ≡ other
only_one g c other are = let same : Some c.in-Ok-Some.request ≡ Some other = sym c.in-Ok-Some.field-0-is ∙ c.in-Ok-Some.ensures.only other are in cc same

reads_too : (g : Over) (c : goal.After-run g) (asked : Request) → ReadsLines asked → AreWords (map string_bytes c.args.words.now) asked → ReadsLines c.in-Ok-Some.request
reads_too g c asked reads words = subst ReadsLines (sym (only_one g c asked words)) reads

pub returns-in-Ok-Some-clause-ran : goal.returns-in-Ok-Some-clause-ran
returns-in-Ok-Some-clause-ran g c = record {
  wrote = λ asked words. wrote_of (stored g.D.Disk) (rack_meaning g.D.Disk) c.in-Ok-Some.request asked (only_one g c asked words) c.run.ensures.wrote;
  refused = λ differs. absurd (differs c.in-Ok-Some.request (are_words g c));
  causes = record {
    usage = λ is. absurd (c.run.ensures.usage is);
    no_words = λ differs. absurd (differs c.in-Ok-Some.request (are_words g c));
    read_fault = c.run.ensures.read_fault;
    write_fault = c.run.ensures.write_fault;
    ends = λ asked reads words. c.run.ensures.ends (reads_too g c asked reads words);
    completes = λ asked reads words no_read no_write.
        completes_of _ _ _ _ c.run.ensures.usage c.run.ensures.read_fault c.run.ensures.write_fault (c.run.ensures.ends (reads_too g c asked reads words)) no_read no_write;
    load_completes = λ options words no_write.
        load_completes_of c.run.result.0 (c.run.ensures.loads options (only_one g c (request.Load options) words)).1 (λ is. no_write (c.run.ensures.write_fault is));
  };
  disks = blamed (stored g.D.Disk) (rack_meaning g.D.Disk) c.in-Ok-Some.request _ _ (sym c.args.rack.acceptors.ok.0 ∙ c.requires.acceptors) (sym c.run.result.1.acceptors.ok.0 ∙ c.run.ensures.all_acceptors) c.run.ensures.wrote;
}

-- ---- nothing is asked for
pub returns-in-Ok-None-clause-ran : goal.returns-in-Ok-None-clause-ran
returns-in-Ok-None-clause-ran g c =
    let none : (asked : Request) → AreWords (map string_bytes c.args.words.now) asked → ⊥ = λ asked words. cc (c.in-Ok-None.ensures.only asked words) in
    record {
      wrote = λ asked words. absurd (none asked words);
      refused = λ differs. (refl, refl);
      causes = record {
        usage = λ is. none;
        no_words = λ differs. inl refl;
        read_fault = λ is. absurd (cc is);
        write_fault = λ is. absurd (cc is);
        ends = λ asked reads words. absurd (none asked words);
        completes = λ asked reads words. absurd (none asked words);
        load_completes = λ options words. absurd (none (request.Load options) words);
      };
      disks = tt;
    }

-- there is no memory for what is asked for
pub returns-in-Err-clause-ran : goal.returns-in-Err-clause-ran
returns-in-Err-clause-ran g c = record {
  wrote = λ asked words. wrote_nothing (stored g.D.Disk) (rack_meaning g.D.Disk) asked _ _ (no_words_read refl refl) refl;
  refused = λ differs. (refl, refl);
  causes = record {
    usage = λ is. absurd (cc is);
    no_words = λ differs. inr refl;
    read_fault = λ is. absurd (cc is);
    write_fault = λ is. absurd (cc is);
    ends = λ asked reads words ending is. absurd (no_end ending is);
    completes = λ asked reads words no_read no_write. no_memory_completes _;
    load_completes = λ options words no_write. inr (inl refl);
  };
  disks = tt;
}

pub returns-in-Ok-Some-clause-read : goal.returns-in-Ok-Some-clause-read
returns-in-Ok-Some-clause-read g c asked reads words = c.run.ensures.read (reads_too g c asked reads words)

pub returns-in-Ok-Some-clause-unraced : goal.returns-in-Ok-Some-clause-unraced
returns-in-Ok-Some-clause-unraced g c none = c.run.ensures.unraced (λ options is. none options (subst (AreWords (map string_bytes c.args.words.now)) is (are_words g c)))

pub returns-in-Ok-Some-clause-unread : goal.returns-in-Ok-Some-clause-unread
returns-in-Ok-Some-clause-unread g c options words = (c.run.ensures.loads options (only_one g c (request.Load options) words)).0
