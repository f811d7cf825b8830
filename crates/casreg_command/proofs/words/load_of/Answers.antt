use Rattle.std.proofs.Common.{◌≡◌, ℕ, List, length, sym, ap, subst, ◌∙◌, arith}
use Rattle.std.proofs.lemmas.List.FromFn.{length-range_with_len}
use Rattle.cas_ballot.specs.Members.{IsMemberSet}
use Rattle.cas_world.proofs.Lists.{members_set}
use Rattle.casreg_command.proofs.words.load_of.Goals as goal

pub returns-clause-range : goal.returns-clause-range
returns-clause-range c =
    let size : length c.first_members.result ≡ c.number_of.result = ap (λ (l : List ℕ). length l) c.first_members.ensures ∙ length-range_with_len 1 c.number_of.result in
    record {
      is_load = record {
        member_set = subst IsMemberSet (sym c.first_members.ensures) (members_set c.number_of.result (omega (arith, c.number_of.ensures.few)));
        some_members = omega (arith, size, c.number_of.ensures.some);
        few_members = omega (arith, size, c.number_of.ensures.few);
        some_proposers = c.number_of-2.ensures.some;
        few_proposers = c.number_of-2.ensures.few;
        some_tries = c.number_of-3.ensures.some;
      };
      few_tries = c.number_of-3.ensures.few;
      few_lines = c.lines_of.ensures.few;
    }
