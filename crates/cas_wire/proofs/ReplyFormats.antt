-- The formats of answers and replies.
use Rattle.std.proofs.Common.{◌≡◌, ℕ, ◌^◌, ◌<◌, ◌≤◌, Bool, true, false, eqb, not, List, [], ◌∷◌, ◌++◌, length, Option, Some, Ok, Err, refl, sym, ap, subst, ◌∙◌, arith}
use Rattle.std.specs.Prelude.{IfSome, ◌&&◌, ◌||◌}
use Rattle.std.specs.Cmp.{first_so, second_so}
use Rattle.std.specs.List.{flat_map, AllByRecursion}
use Rattle.std.specs.Int.{w64}
use Rattle.std.proofs.lemmas.Bool.{leb-true, le-leb, eqb-true, eq-eqb}
use Rattle.cas_ballot.specs.declared.ballot.Ballot.{Ballot}
use Rattle.cas_ballot.specs.Ballot.{FitsBallot}
use Rattle.cas_change.specs.Key.{IsKey}
use Rattle.cas_slot.specs.declared.message.Phase.{Phase}
use Rattle.cas_slot.specs.declared.message.Tell.{Tell}
use Rattle.cas_slot.specs.declared.message.Tell.TheVariants as tell
use Rattle.cas_slot.specs.declared.message.Reply.{Reply}
use Rattle.cas_slot.specs.declared.slot.Accepted.{Accepted}
use Rattle.cas_wire.specs.declared.kinds.TellKind.{TellKind}
use Rattle.cas_wire.specs.declared.kinds.TellKind.TheVariants as kind
use Rattle.cas_wire.specs.declared.reply.ReplyHead.{ReplyHead}
use Rattle.cas_slot.specs.Slots.{rises}
use Rattle.cas_wire.specs.Frame.{listing_spelling, tell_spelling, reply_spelling, FitsListing, FitsTell, FitsReply}
use Rattle.cas_wire.specs.FrameReading.{then_at, list_at, named_at, is_format, is_acceptor, is_count, keys_at, is_listing, listing_at, promised_of, met_of, aged_of, listed_of, probed_of, plain_at, tell_at, reply_head_of, is_head, reply_head_at, reply_of, reply_at}
use Rattle.cas_wire.specs.Kinds.{named, kinds, kind_byte, kind_of, phase_byte, flags, flag_byte}
use Rattle.cas_wire.specs.Reading.{Reading, ◌>>=◌, pair_at, byte_where, is_proposer, key_at, ballot_at, accepted_at, optional_at}
use Rattle.cas_wire.specs.Spelling.{key_spelling, ballot_spelling, accepted_spelling, optional_spelling, FitsAccepted}
use Rattle.cas_base.proofs.Bytes.{IsBytes}
use Rattle.cas_wire.proofs.Formats.{Takes, ok_is, left_is, not_err, IsFormat, byte_format, wide64, number_format, pair_format, made_format, optional_format}
use Rattle.cas_wire.proofs.MoreFormats.{then_format, where_format, said_format, list_format, named_format, variant_takes, variant_again, variant_within}
use Rattle.cas_wire.proofs.PartFormats.{key_format, ballot_format, accepted_or_none_format}
use Rattle.cas_wire.proofs.RequestFormats.{phase_format}

-- ---- keys behind their number

abbrev FitsKeys : List (List ℕ) → Type 0
FitsKeys keys = (length keys ≤ 4) × AllByRecursion IsKey keys

counted_format : IsFormat (λ (p : ℕ × List (List ℕ)). (p.0 ∷ []) ++ flat_map key_spelling p.1) (λ p. ((is_count p.0 ≡ true) × (p.0 < 256)) × ((length p.1 ≡ p.0) × AllByRecursion IsKey p.1)) (then_at (byte_where is_count) (list_at key_at))
counted_format = then_format (byte_format is_count) (λ n. list_format n key_format)

-- the same reading without the number
abbrev without_number : Reading (ℕ × List (List ℕ)) → Reading (List (List ℕ))
without_number r = r >>= λ p. Ok (p.0.1, p.1)

abbrev with_number : ℕ → Reading (List (List ℕ)) → Reading (ℕ × List (List ℕ))
with_number n r = r >>= λ b. Ok ((n, b.0), b.1)

second_ok : (r : Reading (ℕ × List (List ℕ))) (x : List (List ℕ) × List ℕ) → without_number r ≡ Ok x → (n : ℕ) × (r ≡ Ok ((n, x.0), x.1))
second_ok (Ok p) x e = let is = ok_is (p.0.1, p.1) x e in (p.0.0, ap (λ (y : List (List ℕ) × List ℕ). Ok ((p.0.0, y.0), y.1)) is)
second_ok (Err left) x e = absurd cc

second_err : (r : Reading (ℕ × List (List ℕ))) (left : ℕ) → without_number r ≡ Err left → r ≡ Err left
second_err (Ok p) left e = absurd (not_err (p.0.1, p.1) left e)
second_err (Err l) left e = ap (λ (n : ℕ). Err n) (left_is {A = List (List ℕ)} l left e)

bind_second : (n : ℕ) (r : Reading (List (List ℕ))) → r ≡ without_number (with_number n r)
bind_second n (Ok x) = refl
bind_second n (Err left) = refl

counted : (r : Reading ℕ) → (r >>= λ n. list_at key_at n.0 n.1) ≡ without_number (r >>= λ a. with_number a.0 (list_at key_at a.0 a.1))
counted (Ok a) = bind_second a.0 (list_at key_at a.0 a.1)
counted (Err left) = refl

keys_are : (bytes : List ℕ) → keys_at bytes ≡ without_number (then_at (byte_where is_count) (list_at key_at) bytes)
unfolding keys_at
keys_are bytes = counted (byte_where is_count bytes)

keys_format : IsFormat (λ (keys : List (List ℕ)). length keys ∷ flat_map key_spelling keys) FitsKeys keys_at
keys_format = record {
  takes = λ bytes x fits e.
      let p = second_ok (then_at (byte_where is_count) (list_at key_at) bytes) x (sym (keys_are bytes) ∙ e) in
      let t = counted_format.takes bytes ((p.0, x.0), x.1) fits p.1 in
      let few : p.0 ≤ 4 = leb-true p.0 4 t.1.0.0 in
      let len : length x.0 ≡ p.0 = t.1.1.0 in
      (subst (λ (n : ℕ). Takes bytes (n ∷ flat_map key_spelling x.0) x.1) (sym len) t.0, (omega arith, t.1.1.1));
  again = λ keys rest h.
      keys_are ((length keys ∷ flat_map key_spelling keys) ++ rest)
      ∙ ap without_number (counted_format.again (length keys, keys) rest ((le-leb (length keys) 4 h.0, omega (arith, h.0)), (refl, h.1)));
  within = λ bytes left fits e. counted_format.within bytes left fits (second_err (then_at (byte_where is_count) (list_at key_at) bytes) left (sym (keys_are bytes) ∙ e));
}

-- ---- listings

flag_back : (b : Bool) → named flags (flag_byte b) ≡ Some b
flag_back true = refl
flag_back false = refl

flag_format : IsFormat (λ b. flag_byte b ∷ []) (λ b. Unit {0}) (named_at flags)
flag_format = named_format flag_byte flags (refl, (refl, tt)) flag_back

full_is : (more : Bool) (n : ℕ) → (not more || eqb n 4) ≡ true → more ≡ true → n ≡ 4
full_is true n e more = eqb-true n 4 e
full_is false n e more = absurd cc

is_full : (more : Bool) (n : ℕ) → (more ≡ true → n ≡ 4) → (not more || eqb n 4) ≡ true
is_full true n h = eq-eqb n 4 (h refl)
is_full false n h = refl

both : (a b : Bool) → a ≡ true → b ≡ true → (a && b) ≡ true
both a b p q = rw (p, q) refl

abbrev ListingParts : Type 0
ListingParts = Option (List ℕ) × (List (List ℕ) × Bool)

abbrev parts_spelling : ListingParts → List ℕ
parts_spelling p = listing_spelling p.0 p.1.0 p.1.1

abbrev FitsParts : ListingParts → Type 0
FitsParts p = FitsListing p.0 p.1.0 p.1.1

listing_format : IsFormat parts_spelling FitsParts listing_at
unfolding listing_at listing_spelling
listing_format =
    said_format {t = parts_spelling} {G = FitsParts} (λ p. refl)
    (λ p h.
    let rise = first_so (rises p.0 p.1.0) (not p.1.1 || eqb (length p.1.0) 4) h.1 in
    let more = second_so (rises p.0 p.1.0) (not p.1.1 || eqb (length p.1.0) 4) h.1 in
    record { gone_on = h.0.0; few = h.0.1.0.0; each = h.0.1.0.1; rise = rise; full = full_is p.1.1 (length p.1.0) more })
    (λ p h. ((h.gone_on, ((h.few, h.each), tt)), both (rises p.0 p.1.0) (not p.1.1 || eqb (length p.1.0) 4) h.rise (is_full p.1.1 (length p.1.0) h.full)))
    (where_format is_listing (pair_format (optional_format key_format) (pair_format keys_format flag_format)))

-- ---- answers

promise_and_accepted : IsFormat (λ (p : Ballot × Option Accepted). ballot_spelling p.0 ++ optional_spelling accepted_spelling p.1) (λ p. FitsBallot p.0 × IfSome p.1 FitsAccepted) (pair_at ballot_at (optional_at accepted_at))
promise_and_accepted = pair_format ballot_format accepted_or_none_format

-- an answer of that kind that has a spelling
abbrev pub FitsTellOf : TellKind → Tell → Type 0
FitsTellOf kind told = FitsTell told × (kind_of told ≡ kind)

plain_takes : (k : TellKind) (told : Tell) → tell_spelling told ≡ [] → FitsTellOf k told → (bytes : List ℕ) (x : Tell × List ℕ) → IsBytes bytes → plain_at told bytes ≡ Ok x → Takes bytes (tell_spelling x.0) x.1 × FitsTellOf k x.0
plain_takes k told spelled of bytes x fits e =
    subst (λ (y : Tell × List ℕ). Takes bytes (tell_spelling y.0) y.1 × FitsTellOf k y.0) (ok_is (told, bytes) x e)
    (subst (λ (text : List ℕ). Takes bytes text bytes) (sym spelled) (record { parts = refl; rest_fits = fits }), of)

tell_takes : (k : TellKind) (bytes : List ℕ) (x : Tell × List ℕ) → IsBytes bytes → tell_at k bytes ≡ Ok x → Takes bytes (tell_spelling x.0) x.1 × FitsTellOf k x.0
unfolding tell_at tell_spelling
tell_takes kind.Promised bytes x fits e = variant_takes promised_of tell_spelling (FitsTellOf kind.Promised) (λ a. refl) (λ a h. (h, refl)) accepted_or_none_format bytes x fits e
tell_takes kind.Accepted bytes x fits e = plain_takes kind.Accepted tell.Accepted refl (tt, refl) bytes x fits e
tell_takes kind.Met bytes x fits e = variant_takes met_of tell_spelling (FitsTellOf kind.Met) (λ a. refl) (λ a h. (h, refl)) ballot_format bytes x fits e
tell_takes kind.Aged bytes x fits e = variant_takes aged_of tell_spelling (FitsTellOf kind.Aged) (λ a. refl) (λ a h. (h, refl)) (number_format w64 (2 ^ 64) wide64) bytes x fits e
tell_takes kind.Full bytes x fits e = plain_takes kind.Full tell.Full refl (tt, refl) bytes x fits e
tell_takes kind.AgesSet bytes x fits e = plain_takes kind.AgesSet tell.AgesSet refl (tt, refl) bytes x fits e
tell_takes kind.Removed bytes x fits e = plain_takes kind.Removed tell.Removed refl (tt, refl) bytes x fits e
tell_takes kind.Kept bytes x fits e = plain_takes kind.Kept tell.Kept refl (tt, refl) bytes x fits e
tell_takes kind.Listed bytes x fits e = variant_takes listed_of tell_spelling (FitsTellOf kind.Listed) (λ a. refl) (λ a h. (h, refl)) listing_format bytes x fits e
tell_takes kind.Probed bytes x fits e = variant_takes probed_of tell_spelling (FitsTellOf kind.Probed) (λ a. refl) (λ a h. (h, refl)) promise_and_accepted bytes x fits e

tell_again : (told : Tell) (rest : List ℕ) → FitsTell told → tell_at (kind_of told) (tell_spelling told ++ rest) ≡ Ok (told, rest)
unfolding tell_at tell_spelling
tell_again (tell.Promised accepted) rest h = variant_again promised_of accepted_or_none_format accepted rest h
tell_again tell.Accepted rest h = refl
tell_again (tell.Met ballot) rest h = variant_again met_of ballot_format ballot rest h
tell_again (tell.Aged least) rest h = variant_again aged_of (number_format w64 (2 ^ 64) wide64) least rest h
tell_again tell.Full rest h = refl
tell_again tell.AgesSet rest h = refl
tell_again tell.Removed rest h = refl
tell_again tell.Kept rest h = refl
tell_again (tell.Listed after keys more) rest h = variant_again listed_of listing_format (after, (keys, more)) rest h
tell_again (tell.Probed promise accepted) rest h = variant_again probed_of promise_and_accepted (promise, accepted) rest h

plain_within : (told : Tell) (bytes : List ℕ) (left : ℕ) → plain_at told bytes ≡ Err left → left ≤ length bytes
plain_within told bytes left e = absurd (not_err (told, bytes) left e)

tell_within : (k : TellKind) (bytes : List ℕ) (left : ℕ) → IsBytes bytes → tell_at k bytes ≡ Err left → left ≤ length bytes
unfolding tell_at
tell_within kind.Promised bytes left fits e = variant_within promised_of accepted_or_none_format bytes left fits e
tell_within kind.Accepted bytes left fits e = plain_within tell.Accepted bytes left e
tell_within kind.Met bytes left fits e = variant_within met_of ballot_format bytes left fits e
tell_within kind.Aged bytes left fits e = variant_within aged_of (number_format w64 (2 ^ 64) wide64) bytes left fits e
tell_within kind.Full bytes left fits e = plain_within tell.Full bytes left e
tell_within kind.AgesSet bytes left fits e = plain_within tell.AgesSet bytes left e
tell_within kind.Removed bytes left fits e = plain_within tell.Removed bytes left e
tell_within kind.Kept bytes left fits e = plain_within tell.Kept bytes left e
tell_within kind.Listed bytes left fits e = variant_within listed_of listing_format bytes left fits e
tell_within kind.Probed bytes left fits e = variant_within probed_of promise_and_accepted bytes left fits e

tell_format : (k : TellKind) → IsFormat tell_spelling (FitsTellOf k) (tell_at k)
tell_format k = record {
  takes = tell_takes k;
  again = λ told rest h. ap (λ (q : TellKind). tell_at q (tell_spelling told ++ rest)) (sym h.1) ∙ tell_again told rest h.0;
  within = tell_within k;
}

-- ---- what stands before

kind_back : (k : TellKind) → named kinds (kind_byte k) ≡ Some k
kind_back kind.Promised = refl
kind_back kind.Accepted = refl
kind_back kind.Met = refl
kind_back kind.Aged = refl
kind_back kind.Full = refl
kind_back kind.AgesSet = refl
kind_back kind.Removed = refl
kind_back kind.Kept = refl
kind_back kind.Listed = refl
kind_back kind.Probed = refl

kind_format : IsFormat (λ k. kind_byte k ∷ []) (λ k. Unit {0}) (named_at kinds)
kind_format = named_format kind_byte kinds (refl, (refl, (refl, (refl, (refl, (refl, (refl, (refl, (refl, (refl, tt)))))))))) kind_back

record FitsReplyHead (head : ReplyHead) : Type 0 where
  from : head.from ≤ 63
  to : head.to ≤ 16
  tag : FitsBallot head.tag
  got : is_head head ≡ true

head_parts : ReplyHead → ℕ × (TellKind × (ℕ × (ℕ × (Phase × Ballot))))
head_parts head = (2, (head.kind, (head.from, (head.to, (head.phase, head.tag)))))

abbrev head_spelling : ReplyHead → List ℕ
head_spelling head = 2 ∷ kind_byte head.kind ∷ head.from ∷ head.to ∷ phase_byte head.phase ∷ ballot_spelling head.tag

head_format : IsFormat head_spelling FitsReplyHead reply_head_at
unfolding reply_head_at head_parts
head_format =
    let format = where_format is_head (made_format reply_head_of head_parts (λ p fits. ap (λ (n : ℕ). (n, p.1)) (sym (eqb-true p.0 2 fits.0.0))) (λ head. refl)
    (pair_format (byte_format is_format) (pair_format kind_format (pair_format (byte_format is_acceptor) (pair_format (byte_format is_proposer) (pair_format phase_format ballot_format)))))) in
    record {
      takes = λ bytes x fits e. let t = format.takes bytes x fits e in (t.0, record { from = leb-true x.0.from 63 t.1.0.1.1.0.0; to = leb-true x.0.to 16 t.1.0.1.1.1.0.0; tag = t.1.0.1.1.1.1.1; got = t.1.1 });
      again = λ head rest fits. format.again head rest (((refl, omega arith), (tt, ((le-leb head.from 63 fits.from, omega (arith, fits.from)), ((le-leb head.to 16 fits.to, omega (arith, fits.to)), (tt, fits.tag))))), fits.got);
      within = λ bytes left fits e. format.within bytes left fits e;
    }

-- ---- replies

reply_parts : Reply → ReplyHead × Tell
reply_parts reply = (record { kind = kind_of reply.tell; from = reply.from; to = reply.to; phase = reply.phase; tag = reply.tag }, reply.tell)

parts_back : (p : ReplyHead × Tell) → FitsReplyHead p.0 × FitsTellOf p.0.kind p.1 → reply_parts (reply_of p) ≡ p
unfolding reply_parts
parts_back p fits = ap (λ (k : TellKind). let head : ReplyHead = record { kind = k; from = p.0.from; to = p.0.to; phase = p.0.phase; tag = p.0.tag } in (head, p.1)) fits.1.1

pub reply_format : IsFormat reply_spelling FitsReply reply_at
unfolding reply_at reply_spelling reply_parts
reply_format =
    let format = made_format reply_of reply_parts parts_back (λ reply. refl) (then_format head_format (λ head. tell_format head.kind)) in
    record {
      takes = λ bytes x fits e.
          let t = format.takes bytes x fits e in
          (t.0, record { from = t.1.0.from; to = t.1.0.to; tag = t.1.0.tag; got = t.1.0.got; answer = t.1.1.0 });
      again = λ reply rest fits. format.again reply rest (record { from = fits.from; to = fits.to; tag = fits.tag; got = fits.got }, (fits.answer, refl));
      within = λ bytes left fits e. format.within bytes left fits e;
    }
