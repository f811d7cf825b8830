-- The quorums of the small cluster meet.
use Rattle.std.proofs.Common.{◌≡◌, ℕ, suc, zero, true, List, length, arith, refl}
use Rattle.cas_ballot.specs.Members.{members_where, union_of}
use Rattle.cas_quorum.specs.Quorum.{has_quorum, Shared}
use Rattle.cas_quorum.proofs.Counting.{sizes_share}
use Rattle.cas_record.specs.Logs.Lawful.{ClusterMeets}
use Rattle.cas_record.specs.Logs.Witness.{three, four, small_cluster}

-- two of three and two of three, two of three and three of four, three and three of four
union_three : length (union_of three three) ≡ 3
unfolding members_where
union_three = refl

union_three_four : length (union_of three four) ≡ 4
unfolding members_where
union_three_four = refl

union_four : length (union_of four four) ≡ 4
unfolding members_where
union_four = refl

pub two_two : (p a : List ℕ) → has_quorum 2 three p ≡ true → has_quorum 2 three a ≡ true → Shared p a
two_two p a e f = sizes_share three three 2 2 (omega (arith, union_three)) p a e f

two_three : (p a : List ℕ) → has_quorum 2 three p ≡ true → has_quorum 3 four a ≡ true → Shared p a
two_three p a e f = sizes_share three four 2 3 (omega (arith, union_three_four)) p a e f

three_three : (p a : List ℕ) → has_quorum 3 four p ≡ true → has_quorum 3 four a ≡ true → Shared p a
three_three p a e f = sizes_share four four 3 3 (omega (arith, union_four)) p a e f

pub small_meet : ClusterMeets small_cluster
small_meet zero zero low high p a e f = two_two p a e f
small_meet zero (suc n) low high p a e f = two_three p a e f
small_meet (suc zero) zero low high p a e f = two_two p a e f
small_meet (suc zero) (suc n) low high p a e f = two_three p a e f
small_meet (suc (suc m)) zero low high p a e f = absurd (omega arith)
small_meet (suc (suc m)) (suc n) low high p a e f = three_three p a e f
