-- The members of an era, one after another.
use Rattle.std.proofs.Common.{◌≡◌, ◌+◌, ℕ, suc, Bool, true, false, cond, List, [], ◌∷◌, ◌++◌, map, refl, sym, ap, ◌∙◌, arith}
use Rattle.std.specs.List.{filter, range_with_len}
use Rattle.std.proofs.lemmas.List.FromFn.{filter_of_map_range_with_len_more}
use mathlib.Core.List.{map-append, append-nil}
use Rattle.std.proofs.Common.{map-id}
use Rattle.std.specs.Prelude.{Option, Some}
use Rattle.cas_flow.specs.declared.message.Message.{Message}
use Rattle.cas_flow.specs.declared.message.Message.TheVariants as message
use Rattle.cas_slot.specs.declared.message.Ask.{Ask}
use Rattle.std.specs.Prelude.{None}
use Rattle.std.proofs.Common.{◌<◌, ◌≤◌, length, subst, length-set, get_or-set_other}
use Rattle.std.proofs.lemmas.Grind.{get_or-set_at}
use Rattle.cas_flow.specs.Flow.{FlowView, queue_at, with_queue}
use Rattle.cas_flow.specs.Queue.{QueueView, empty_queue, pushed, messages_of, all_bear}
use Rattle.cas_ballot.specs.declared.ballot.Ballot.{Ballot}
use Rattle.cas_model.specs.Council.{Question}
use Rattle.cas_model.specs.Calls.Step.{Sends}
use Rattle.cas_model.specs.Exchanges.Step.{question_to, questions_to}
use Rattle.cas_world_calls.specs.Sending.{requests_to}

-- of the identities below a number those that pass a test, and then of one more
pub one_more : (test : ℕ → Bool) (n : ℕ) → filter test (range_with_len 0 (n + 1)) ≡ filter test (range_with_len 0 n) ++ cond (test n) (n ∷ []) []
one_more test n = ap (filter test) (sym (map-id (range_with_len 0 (n + 1)))) ∙ (filter_of_map_range_with_len_more test (λ (x : ℕ). x) 0 n n (omega arith) ∙ ap (λ (l : List ℕ). filter test l ++ cond (test n) (n ∷ []) []) (map-id (range_with_len 0 n)))

module _ {A : Type 0} (f : ℕ → A) (test : ℕ → Bool) (n : ℕ) (before after : List A) where
  -- what was made of those below is made of one more
  pub with_one : test n ≡ true → before ≡ map f (filter test (range_with_len 0 n)) → after ≡ before ++ f n ∷ [] → after ≡ map f (filter test (range_with_len 0 (n + 1)))
  with_one passes was pushed = pushed ∙ (ap (λ (l : List A). l ++ f n ∷ []) was
      ∙ (sym (map-append f (filter test (range_with_len 0 n)) (n ∷ []))
      ∙ ap (map f) (sym (one_more test n ∙ ap (λ (b : Bool). filter test (range_with_len 0 n) ++ cond b (n ∷ []) []) passes))))

  pub without_one : test n ≡ false → before ≡ map f (filter test (range_with_len 0 n)) → after ≡ before → after ≡ map f (filter test (range_with_len 0 (n + 1)))
  without_one passes was same = same ∙ (was
      ∙ ap (map f) (sym (one_more test n ∙ (ap (λ (b : Bool). filter test (range_with_len 0 n) ++ cond b (n ∷ []) []) passes ∙ append-nil (filter test (range_with_len 0 n))))))

-- the frame that asks a member
abbrev pub asking : ℕ → ℕ → Ask → ℕ → Option Message
asking proposer age asked to = Some (message.Request (record { to = to; from = proposer; age = age; ask = asked }))

-- each frame bears its request
pub all_asking : (proposer age : ℕ) (asked : Ask) (members : List ℕ) → map (asking proposer age asked) members ≡ map Some (requests_to proposer age asked members)
all_asking proposer age asked [] = refl
all_asking proposer age asked (m ∷ members) = ap (λ (l : List (Option Message)). asking proposer age asked m ∷ l) (all_asking proposer age asked members)

pub is_asking : {to to_ from proposer age age_ : ℕ} {asked asked_ : Ask} → to ≡ to_ → from ≡ proposer → age ≡ age_ → asked ≡ asked_
    → Some (message.Request (record { to = to; from = from; age = age; ask = asked })) ≡ asking proposer age_ asked_ to_
is_asking {to} {to_} {from} {proposer} {age} {age_} {asked} {asked_} a b c d =
    λ i. Some (message.Request (record { to = a i; from = b i; age = c i; ask = d i }))

pub asked_count : (proposer age : ℕ) (asked : Ask) (members : List ℕ) → length (map Some (requests_to proposer age asked members)) ≡ length members
asked_count proposer age asked [] = refl
asked_count proposer age asked (m ∷ members) = ap suc (asked_count proposer age asked members)

-- the frame that asks a member a question
abbrev pub questioning : ℕ → Ballot → Question → ℕ → Option Message
questioning age tag question to = Some (message.Request (question_to age tag question to))

pub all_questioning : (age : ℕ) (tag : Ballot) (question : Question) (members : List ℕ) → map (questioning age tag question) members ≡ map Some (questions_to age tag question members)
all_questioning age tag question [] = refl
all_questioning age tag question (m ∷ members) = ap (λ (l : List (Option Message)). questioning age tag question m ∷ l) (all_questioning age tag question members)

pub question_count : (age : ℕ) (tag : Ballot) (question : Question) (members : List ℕ) → length (map Some (questions_to age tag question members)) ≡ length members
question_count age tag question [] = refl
question_count age tag question (m ∷ members) = ap suc (question_count age tag question members)

-- ---- frames are pushed
-- of all frames these are left: the others stand behind those that were there
pub record IsSending (old : FlowView) (proposer : ℕ) (all : List (Option Message)) (now : FlowView) (rest : List (Option Message)) : Type 0 where
  pub own : (queue_at now proposer).messages ++ messages_of rest ≡ (queue_at old proposer).messages ++ messages_of all
  pub again : (queue_at now proposer).again ≡ (queue_at old proposer).again
  pub others : (id : ℕ) → (id ≡ proposer → ⊥) → queue_at now id ≡ queue_at old id
  pub late : now.late ≡ old.late
  pub queues : length now.own ≡ length old.own
  pub bear : all_bear rest ≡ true
  pub room : length all + length rest ≤ (queue_at now proposer).room

-- the proposer's queue is the one that was put there
set_queue : (flow : FlowView) (proposer : ℕ) (queue : QueueView) → proposer < length flow.own → queue_at (with_queue flow proposer queue) proposer ≡ queue
set_queue flow proposer queue low = get_or-set_at flow.own proposer proposer queue empty_queue refl low

other_queue : (flow : FlowView) (proposer id : ℕ) (queue : QueueView) → (id ≡ proposer → ⊥) → queue_at (with_queue flow proposer queue) id ≡ queue_at flow id
other_queue flow proposer id queue other = get_or-set_other flow.own proposer id queue empty_queue other

messages_within : (frames : List (Option Message)) → length (messages_of frames) ≤ length frames
messages_within [] = omega arith
messages_within (None ∷ frames) = let rest : length (messages_of frames) ≤ length frames = messages_within frames in omega (arith, rest)
messages_within (Some m ∷ frames) = let rest : length (messages_of frames) ≤ length frames = messages_within frames in omega (arith, rest)

-- all are sent
pub all_sent : (old now : FlowView) (proposer : ℕ) (all : List (Option Message)) → IsSending old proposer all now [] → Sends old proposer (messages_of all) now
all_sent old now proposer all sent = record {
  own = sym (append-nil (queue_at now proposer).messages) ∙ sent.own;
  again = sent.again;
  others = sent.others;
  late = sent.late;
  queues = sent.queues;
  room = omega (arith, sent.room, messages_within all);
}

-- what a queue had that got more room
pub sends_after : (old middle new : FlowView) (proposer room : ℕ) (messages : List Message) → proposer < length old.own → middle ≡ with_queue old proposer (record (queue_at old proposer) { room = room })
    → Sends middle proposer messages new → Sends old proposer messages new
sends_after old middle new proposer room messages low grown sent =
    let next : FlowView = with_queue old proposer (record (queue_at old proposer) { room = room }) in
    let by : Sends next proposer messages new = subst (λ (f : FlowView). Sends f proposer messages new) grown sent in
    let queue : queue_at next proposer ≡ record (queue_at old proposer) { room = room } = set_queue old proposer (record (queue_at old proposer) { room = room }) low in record {
      own = by.own ∙ ap (λ (q : QueueView). q.messages ++ messages) queue;
      again = by.again ∙ ap (λ (q : QueueView). q.again) queue;
      others = λ id other. by.others id other ∙ other_queue old proposer id (record (queue_at old proposer) { room = room }) other;
      late = by.late;
      queues = by.queues ∙ length-set old.own proposer (record (queue_at old proposer) { room = room });
      room = by.room;
    }

-- frames that bear messages
pub messages_borne : (messages : List Message) → messages_of (map Some messages) ≡ messages
messages_borne [] = refl
messages_borne (m ∷ messages) = ap (λ (l : List Message). m ∷ l) (messages_borne messages)

pub all_borne : (messages : List Message) → all_bear (map Some messages) ≡ true
all_borne [] = refl
all_borne (m ∷ messages) = all_borne messages
