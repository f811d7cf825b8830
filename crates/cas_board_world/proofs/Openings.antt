-- A cluster in which nothing has happened but that floors were marked, and whose members and proposers are up, is steady.
use Rattle.std.proofs.Common.{◌≡◌, ℕ, zero, suc, Bool, true, false, List, [], ◌∷◌, refl, sym, ap, subst, ◌∙◌, inl, inr, map, reverse, arith, Ok}
use Rattle.std.specs.Prelude.{◌⊎◌, ◌||◌, replicate, Contains}
use Rattle.std.proofs.lemmas.List.{reverse-append}
use Rattle.cas_base.proofs.Bools.{or_cases, true_or_false}
use Rattle.cas_ballot.specs.Members.{has_member}
use Rattle.cas_ballot.proofs.MemberLemmas.{members_where_tells}
use Rattle.cas_slot.specs.Ages.{least_age}
use Rattle.cas_slot.specs.Contents.{Contents}
use Rattle.cas_acceptor.specs.Acceptor.{AcceptorView}
use Rattle.cas_flow.specs.Flow.{FlowView}
use Rattle.cas_flow.specs.declared.message.Message.{Message}
use Rattle.cas_quorum.specs.declared.era.Era.{Era}
use Rattle.cas_quorum.specs.Era.{majority_era}
use Rattle.cas_record.specs.Places.{At, here, past}
use Rattle.cas_record.specs.declared.mark.Mark.{Mark}
use Rattle.cas_record.specs.declared.mark.Mark.TheVariants.{Told}
use Rattle.cas_record.specs.declared.operator.Asked.{Asked}
use Rattle.cas_record.specs.declared.operator.OpAnswer.{OpAnswer}
use Rattle.cas_round.proofs.Lists.{Has, has}
use Rattle.cas_model.specs.Council.{Council}
use Rattle.cas_model.specs.Eras.Course.{later_of}
use Rattle.cas_model.specs.Openings.{Opening, mark_of, IsOpeningOn}
use Rattle.cas_model.specs.Parties.{IsAged}
use Rattle.cas_model.specs.SafeLaws.{HasPlaces}
use Rattle.cas_model.specs.Step.{IsOpening}
use Rattle.cas_model.specs.View.{Meaning, View, CallerView, IsAt, era_in}
use Rattle.cas_model.proofs.Places.{contains_none, has_append}
use Rattle.cas_model.proofs.Openings.Opens.{none_under_way, remembered_on}
use Rattle.cas_model.proofs.Openings.Safe.{opens_on_are_safe}
use Rattle.cas_model.specs.Exchanges.Tellings.{WasToldSo}
use Rattle.cas_model_causes.proofs.Exchanges.Answering.{clusters_answer}
use Rattle.cas_model_causes.proofs.Exchanges.Asking.{probes_ask_all}
use Rattle.cas_model_causes.proofs.Exchanges.Current.{probes_are_current}
use Rattle.cas_model_causes.proofs.Exchanges.Probed.{probes_tell_so}
use Rattle.cas_model_causes.specs.Eras.Tellings.{AreTellingsSo, IsPassing, TellingsAreTrue}
use Rattle.cas_model_causes.specs.Exchanges.Unaged.{IsUnaged}
use Rattle.cas_board_world.specs.Blame.{blame_by}
use Rattle.cas_board_world.specs.Steady.{AreAgesCovered, AreDesksUp, AreMembersUp, WereMembers, IsBlamedSince, IsFair, IsSteady, blame_by_call, blame_by_order, blame_by_exchange}

-- each proposer works in the first era, and one that is not there in one without members
era_there : (n id : ℕ) (era : Era) → (era_in (replicate n era) id ≡ era) ⊎ (era_in (replicate n era) id ≡ majority_era 0 [])
era_there zero id era = inr refl
era_there (suc n) zero era = inl refl
era_there (suc n) (suc id) era = era_there n id era

both_were : (members were : List ℕ) → ((acceptor : ℕ) → has_member members acceptor ≡ true → has_member were acceptor ≡ true) → WereMembers were (majority_era 0 members)
both_were members were all acceptor member = elim (or_cases (has_member members acceptor) (has_member members acceptor) (members_where_tells (λ n. has_member members n || has_member members n) acceptor member)) [
  | inl first ↦ all acceptor first
  | inr second ↦ all acceptor second
]

none_were : (were : List ℕ) → WereMembers were (majority_era 0 [])
none_were were = both_were [] were (λ acceptor none. absurd (cc none))

-- ---- floors
-- what is among the marks of floors is the mark of one
floor_of : (floors : List Opening) (mark : Mark) → Has mark (map mark_of floors) → (o : Opening) × (mark ≡ mark_of o)
floor_of [] mark none = absurd none
floor_of (o ∷ floors) mark (inl same) = (o, sym same)
floor_of (o ∷ floors) mark (inr there) = floor_of floors mark there

opening_blamed : {S V : Type 0} (m : Meaning S V) (members used : List ℕ) (floors : List Opening) (view : View S V) → IsOpeningOn m members used floors view → AreMembersUp members view.acceptors → AreDesksUp view.desks
    → IsBlamedSince m members view
opening_blamed {S} {V} m members used floors view is members_up desks_up = record {
  excused = λ id acceptor at down. inr ((is.acceptors id acceptor at).not_started down, unused id acceptor at down (has_member members id) refl);
  failed = λ id desk at down. absurd (cc (sym (desks_up id desk at) ∙ down));
  calls = λ id caller at. subst (λ (c : CallerView). IsFair m view.acceptors view.desks (blame_by_call id c.call)) (sym (is.callers id caller at)) tt;
  order = subst (λ (c : Council). IsFair m view.acceptors view.desks (blame_by_order c.order)) (sym is.council) tt;
  exchange = subst (λ (c : Council). IsFair m view.acceptors view.desks (blame_by_exchange c.exchange)) (sym is.council) tt;
  were_set = is.member_set;
  in_eras = λ id. subst (λ (l : List Era). WereMembers members (era_in l id)) (sym is.eras) (elim (era_there 17 id (majority_era 0 members)) [
    | inl there ↦ subst (WereMembers members) (sym there) (both_were members members (λ acceptor member. member))
    | inr beyond ↦ subst (WereMembers members) (sym beyond) (none_were members)
  ]);
  later = λ era there. absurd (contains_none (subst (λ (c : Council). Contains (later_of c.plan) era) is.council there));
  asked = λ exchange is_open. absurd (cc (sym (ap (λ (c : Council). c.exchange) is.council) ∙ is_open));
  marked = λ mark there.
      let floor = floor_of floors mark (has mark (map mark_of floors) (subst (λ (l : List Mark). Contains l mark) is.marks there)) in
      subst (λ (x : Mark). IsFair m view.acceptors view.desks (blame_by x)) (sym floor.1) tt;
}
  where
    unused : (id : ℕ) (acceptor : AcceptorView S) → IsAt view.acceptors id acceptor → acceptor.down ≡ true → (b : Bool) → has_member members id ≡ b → has_member members id ≡ false
    unused id acceptor at down true is_member = absurd (cc (sym (members_up id acceptor at is_member) ∙ down))
    unused id acceptor at down false is_none = is_none

-- ---- what is told
at_has : {A : Type 0} {x : A} {older xs : List A} → At x older xs → Has x xs
at_has here = inl refl
at_has (past at) = inr (at_has at)

has_backwards : {A : Type 0} (x : A) (xs : List A) → Has x (reverse xs) → Has x xs
has_backwards x [] none = none
has_backwards {A} x (y ∷ xs) there = elim (has_append x (reverse xs) (y ∷ []) (subst (Has x) (reverse-append (y ∷ []) xs) there)) [
  | inl before ↦ inr (has_backwards x xs before)
  | inr last ↦ elim last [
    | inl same ↦ inl same
    | inr none ↦ absurd none
  ]
]

told_none : (o : Opening) (asked : Asked) (answer : OpAnswer) → Told asked answer ≡ mark_of o → ⊥
told_none o asked answer is = cc is

-- floors tell nothing
opening_truly : {S V : Type 0} (m : Meaning S V) (members used : List ℕ) (floors : List Opening) (view : View S V) → IsOpeningOn m members used floors view → TellingsAreTrue view
opening_truly {S} {V} m members used floors view is = record {
  tellings = subst (λ (l : List Mark). AreTellingsSo (suc view.last_proposer) (reverse l)) (sym is.marks) (record {
    so = λ {asked} {answer} at.
        let floor = floor_of floors (Told asked answer) (has_backwards (Told asked answer) (map mark_of floors) (at_has at)) in
        absurd (told_none floor.0 asked answer floor.1);
  });
  passing = subst (λ (c : Council). WasToldSo IsPassing c.order) (sym is.council) tt;
}

-- ---- ages
opening_unaged : {S V : Type 0} (m : Meaning S V) (members used : List ℕ) (floors : List Opening) (view : View S V) → m.shelves.tells → IsOpeningOn m members used floors view → AreAgesCovered m view → IsUnaged m view
opening_unaged {S} {V} m members used floors view shelves is ages = record {
  held = λ desk at_desk. record {
    acceptors = λ id acceptor at.
        let one = is.acceptors id acceptor at in
        record {
          keeps = λ up. ages id acceptor desk at up at_desk;
          left = λ started left may. elim (true_or_false acceptor.down) [
            | inl down ↦ absurd (cc (one.not_started down, started))
            | inr up ↦ (let same : left ≡ m.shelves.contents acceptor.shelf = cc (one.lasts shelves up (Ok left) may) in
                subst (λ (c : Contents). IsAged m.disks (least_age c.ages 0) desk.vault) (sym same) (ages id acceptor desk at up at_desk))
          ];
        };
    flows = record {
      own = λ place each there. absurd (contains_none (subst (λ (l : List Message). Contains l each) (none_under_way view.flow place is.flow) there));
      late = λ each there. absurd (contains_none (subst (λ (f : FlowView). Contains f.late each) is.flow there));
    };
  };
  probes = λ exchange key is_open asks. absurd (cc (sym (ap (λ (c : Council). c.exchange) is.council) ∙ is_open));
}

-- where nothing has happened, no acceptor asks for an age
pub opening_ages : {S V : Type 0} (m : Meaning S V) (members : List ℕ) (view : View S V) → IsOpening m members view → AreAgesCovered m view
opening_ages {S} {V} m members view is id acceptor desk at up at_desk =
    subst (λ (c : Contents). IsAged m.disks (least_age c.ages 0) desk.vault) (sym ((is.acceptors id acceptor at).keeps up)) (record { kept = omega arith; left = λ c kept may on. omega arith })

pub opening_steady : {S V : Type 0} (m : Meaning S V) (members used : List ℕ) (floors : List Opening) (view : View S V) → IsOpeningOn m members used floors view → HasPlaces view → AreMembersUp members view.acceptors → AreDesksUp view.desks
    → (m.shelves.tells → m.disks.tells → AreAgesCovered m view) → IsSteady m view
opening_steady m members used floors view is places members_up desks_up ages = record {
  safe = opens_on_are_safe m members used floors view is places;
  blamed = (members, opening_blamed m members used floors view is members_up desks_up);
  answering = (clusters_answer m).opening_on members used floors view is;
  asking = (probes_ask_all m).opening_on members used floors view is;
  remembered = λ shelves disks. remembered_on m shelves disks members used floors view is;
  probing = λ shelves disks. (probes_tell_so m).opening_on members used floors view is;
  unaged = λ shelves disks. opening_unaged m members used floors view shelves is (ages shelves disks);
  current = λ shelves disks. (probes_are_current m).opening_on members used floors view is;
  telling = λ shelves disks. opening_truly m members used floors view is;
}
