-- The formats of questions and requests.
use Rattle.std.proofs.Common.{◌≡◌, ℕ, ◌^◌, ◌<◌, ◌≤◌, List, [], ◌∷◌, ◌++◌, length, Option, Some, Ok, Err, refl, sym, ap, ◌∙◌, arith}
use Rattle.std.specs.Prelude.{IfSome}
use Rattle.std.specs.List.{flat_map, AllByRecursion}
use Rattle.std.specs.Int.{w32, w64, to_be_bytes}
use Rattle.std.proofs.lemmas.Bool.{leb-true, le-leb, eqb-true}
use Rattle.cas_ballot.specs.declared.ballot.Ballot.{Ballot}
use Rattle.cas_ballot.specs.Ballot.{FitsBallot}
use Rattle.cas_change.specs.Key.{IsKey}
use Rattle.cas_change.specs.declared.state.State.{State}
use Rattle.cas_slot.specs.declared.message.Ask.{Ask}
use Rattle.cas_slot.specs.declared.message.Ask.TheVariants.{Prepare, Accept, Ages, Remove, List as ListKeys, Probe}
use Rattle.cas_slot.specs.declared.message.Phase.{Phase}
use Rattle.cas_slot.specs.declared.message.Phase.TheVariants as phase
use Rattle.cas_slot.specs.declared.message.Request.{Request}
use Rattle.cas_slot.specs.Message.{phase_of}
use Rattle.cas_wire.specs.declared.request.RequestHead.{RequestHead}
use Rattle.cas_wire.specs.Frame.{ask_spelling, request_spelling, FitsAsk, FitsRequest}
use Rattle.cas_wire.specs.FrameReading.{named_at, is_format, is_acceptor, prepare_of, accept_of, ages_of, remove_of, list_of, probe_of, accept_at, ages_at, ask_at, request_head_of, request_head_at, request_of, request_at}
use Rattle.cas_wire.specs.Kinds.{named, phases, phase_byte}
use Rattle.cas_wire.specs.Reading.{pair_at, number_at, is_proposer, key_at, ballot_at, state_at, optional_at}
use Rattle.cas_wire.specs.Spelling.{key_spelling, ballot_spelling, state_spelling, optional_spelling, FitsState}
use Rattle.cas_base.proofs.Bytes.{IsBytes}
use Rattle.cas_wire.proofs.Formats.{Takes, IsFormat, byte_format, wide32, wide64, number_format, pair_format, made_format, optional_format}
use Rattle.cas_wire.proofs.MoreFormats.{then_format, list_format, named_format, variant_takes, variant_again, variant_within}
use Rattle.cas_wire.proofs.PartFormats.{key_format, ballot_format, state_format}

-- ---- questions

key_and_ballot : IsFormat (λ (p : List ℕ × Ballot). key_spelling p.0 ++ ballot_spelling p.1) (λ p. IsKey p.0 × FitsBallot p.1) (pair_at key_at ballot_at)
key_and_ballot = pair_format key_format ballot_format

ballot_and_key : IsFormat (λ (p : Ballot × List ℕ). ballot_spelling p.0 ++ key_spelling p.1) (λ p. FitsBallot p.0 × IsKey p.1) (pair_at ballot_at key_at)
ballot_and_key = pair_format ballot_format key_format

ballot_and_ages : IsFormat (λ (p : Ballot × List ℕ). ballot_spelling p.0 ++ flat_map (to_be_bytes w64) p.1) (λ p. FitsBallot p.0 × ((length p.1 ≡ 17) × AllByRecursion (λ age. age < 2 ^ 64) p.1)) (pair_at ballot_at ages_at)
ballot_and_ages = pair_format ballot_format (list_format 17 (number_format w64 (2 ^ 64) wide64))

ballot_and_after : IsFormat (λ (p : Ballot × Option (List ℕ)). ballot_spelling p.0 ++ optional_spelling key_spelling p.1) (λ p. FitsBallot p.0 × IfSome p.1 IsKey) (pair_at ballot_at (optional_at key_at))
ballot_and_after = pair_format ballot_format (optional_format key_format)

proposal : IsFormat
    (λ (p : List ℕ × (Ballot × (ℕ × (Option Ballot × State)))). key_spelling p.0 ++ (ballot_spelling p.1.0 ++ (to_be_bytes w32 p.1.1.0 ++ (optional_spelling ballot_spelling p.1.1.1.0 ++ state_spelling p.1.1.1.1))))
    (λ p. IsKey p.0 × (FitsBallot p.1.0 × ((p.1.1.0 < 2 ^ 32) × (IfSome p.1.1.1.0 FitsBallot × FitsState p.1.1.1.1))))
    (pair_at key_at (pair_at ballot_at (pair_at (number_at w32) (pair_at (optional_at ballot_at) state_at))))
proposal = pair_format key_format (pair_format ballot_format (pair_format (number_format w32 (2 ^ 32) wide32) (pair_format (optional_format ballot_format) state_format)))

-- a question of that kind that has a spelling
abbrev pub FitsAskOf : Phase → Ask → Type 0
FitsAskOf asked ask = FitsAsk ask × (phase_of ask ≡ asked)

ask_takes : (asked : Phase) (bytes : List ℕ) (x : Ask × List ℕ) → IsBytes bytes → ask_at asked bytes ≡ Ok x → Takes bytes (ask_spelling x.0) x.1 × FitsAskOf asked x.0
unfolding ask_at accept_at ask_spelling
ask_takes phase.Prepare bytes x fits e = variant_takes prepare_of ask_spelling (FitsAskOf phase.Prepare) (λ a. refl) (λ a h. (h, refl)) key_and_ballot bytes x fits e
ask_takes phase.Accept bytes x fits e = variant_takes accept_of ask_spelling (FitsAskOf phase.Accept) (λ a. refl) (λ a h. ((h.0, h.1.0, h.1.1.0, h.1.1.1.0, h.1.1.1.1), refl)) proposal bytes x fits e
ask_takes phase.Ages bytes x fits e = variant_takes ages_of ask_spelling (FitsAskOf phase.Ages) (λ a. refl) (λ a h. ((h.0, h.1.0, h.1.1), refl)) ballot_and_ages bytes x fits e
ask_takes phase.Remove bytes x fits e = variant_takes remove_of ask_spelling (FitsAskOf phase.Remove) (λ a. refl) (λ a h. (h, refl)) key_and_ballot bytes x fits e
ask_takes phase.List bytes x fits e = variant_takes list_of ask_spelling (FitsAskOf phase.List) (λ a. refl) (λ a h. (h, refl)) ballot_and_after bytes x fits e
ask_takes phase.Probe bytes x fits e = variant_takes probe_of ask_spelling (FitsAskOf phase.Probe) (λ a. refl) (λ a h. (h, refl)) ballot_and_key bytes x fits e

ask_again : (ask : Ask) (rest : List ℕ) → FitsAsk ask → ask_at (phase_of ask) (ask_spelling ask ++ rest) ≡ Ok (ask, rest)
unfolding ask_at accept_at ask_spelling
ask_again (Prepare key ballot) rest h = variant_again prepare_of key_and_ballot (key, ballot) rest h
ask_again (Accept key ballot era ride state) rest h = variant_again accept_of proposal (key, (ballot, (era, (ride, state)))) rest (h.0, (h.1, (h.2, (h.3, h.4))))
ask_again (Ages tag least) rest h = variant_again ages_of ballot_and_ages (tag, least.0) rest (h.0, (h.1, h.2))
ask_again (Remove key tomb) rest h = variant_again remove_of key_and_ballot (key, tomb) rest h
ask_again (ListKeys tag after) rest h = variant_again list_of ballot_and_after (tag, after) rest h
ask_again (Probe tag key) rest h = variant_again probe_of ballot_and_key (tag, key) rest h

ask_within : (asked : Phase) (bytes : List ℕ) (left : ℕ) → IsBytes bytes → ask_at asked bytes ≡ Err left → left ≤ length bytes
unfolding ask_at accept_at
ask_within phase.Prepare bytes left fits e = variant_within prepare_of key_and_ballot bytes left fits e
ask_within phase.Accept bytes left fits e = variant_within accept_of proposal bytes left fits e
ask_within phase.Ages bytes left fits e = variant_within ages_of ballot_and_ages bytes left fits e
ask_within phase.Remove bytes left fits e = variant_within remove_of key_and_ballot bytes left fits e
ask_within phase.List bytes left fits e = variant_within list_of ballot_and_after bytes left fits e
ask_within phase.Probe bytes left fits e = variant_within probe_of ballot_and_key bytes left fits e

ask_format : (asked : Phase) → IsFormat ask_spelling (FitsAskOf asked) (ask_at asked)
ask_format asked = record {
  takes = ask_takes asked;
  again = λ ask rest h. ap (λ (p : Phase). ask_at p (ask_spelling ask ++ rest)) (sym h.1) ∙ ask_again ask rest h.0;
  within = ask_within asked;
}

-- ---- what stands before

phase_back : (p : Phase) → named phases (phase_byte p) ≡ Some p
phase_back phase.Prepare = refl
phase_back phase.Accept = refl
phase_back phase.Ages = refl
phase_back phase.Remove = refl
phase_back phase.List = refl
phase_back phase.Probe = refl

pub phase_format : IsFormat (λ p. phase_byte p ∷ []) (λ p. Unit {0}) (named_at phases)
phase_format = named_format phase_byte phases (refl, (refl, (refl, (refl, (refl, (refl, tt)))))) phase_back

record FitsRequestHead (head : RequestHead) : Type 0 where
  to : head.to ≤ 63
  from : head.from ≤ 16
  age : head.age < 2 ^ 64

head_parts : RequestHead → ℕ × (Phase × (ℕ × (ℕ × ℕ)))
head_parts head = (2, (head.phase, (head.to, (head.from, head.age))))

abbrev head_spelling : RequestHead → List ℕ
head_spelling head = 2 ∷ phase_byte head.phase ∷ head.to ∷ head.from ∷ to_be_bytes w64 head.age

head_format : IsFormat head_spelling FitsRequestHead request_head_at
unfolding request_head_at head_parts
head_format =
    let format = made_format request_head_of head_parts (λ p fits. ap (λ (n : ℕ). (n, p.1)) (sym (eqb-true p.0 2 fits.0.0))) (λ head. refl)
    (pair_format (byte_format is_format) (pair_format phase_format (pair_format (byte_format is_acceptor) (pair_format (byte_format is_proposer) (number_format w64 (2 ^ 64) wide64))))) in
    record {
      takes = λ bytes x fits e. let t = format.takes bytes x fits e in (t.0, record { to = leb-true x.0.to 63 t.1.1.1.0.0; from = leb-true x.0.from 16 t.1.1.1.1.0.0; age = t.1.1.1.1.1 });
      again = λ head rest fits. format.again head rest ((refl, omega arith), (tt, ((le-leb head.to 63 fits.to, omega (arith, fits.to)), ((le-leb head.from 16 fits.from, omega (arith, fits.from)), fits.age))));
      within = λ bytes left fits e. format.within bytes left fits e;
    }

-- ---- requests

request_parts : Request → RequestHead × Ask
request_parts request = (record { phase = phase_of request.ask; to = request.to; from = request.from; age = request.age }, request.ask)

parts_back : (p : RequestHead × Ask) → FitsRequestHead p.0 × FitsAskOf p.0.phase p.1 → request_parts (request_of p) ≡ p
unfolding request_parts
parts_back p fits = ap (λ (asked : Phase). let head : RequestHead = record { phase = asked; to = p.0.to; from = p.0.from; age = p.0.age } in (head, p.1)) fits.1.1

pub request_format : IsFormat request_spelling FitsRequest request_at
unfolding request_at request_spelling request_parts
request_format =
    let format = made_format request_of request_parts parts_back (λ request. refl) (then_format head_format (λ head. ask_format head.phase)) in
    record {
      takes = λ bytes x fits e. let t = format.takes bytes x fits e in (t.0, record { to = t.1.0.to; from = t.1.0.from; age = t.1.0.age; ask = t.1.1.0 });
      again = λ request rest fits. format.again request rest (record { to = fits.to; from = fits.from; age = fits.age }, (fits.ask, refl));
      within = λ bytes left fits e. format.within bytes left fits e;
    }
