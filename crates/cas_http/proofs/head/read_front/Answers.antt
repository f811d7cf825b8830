use Rattle.std.proofs.Common.{take, subst, sym, rules, arith}
use Rattle.httparse.specs.Borrowed.{HoldsSomeRequest}
use Rattle.httparse.specs.Grammar.{HasNoRequest, MayBecomeRequest}
use Rattle.httparse.specs.Spans.{RequestOverflows}
use Rattle.cas_http.specs.declared.head.Front.{Front}
use Rattle.cas_http.specs.declared.head.Front.TheVariants.{Whole}
use Rattle.cas_http.specs.declared.head.TheConstants.{MOST_HEAD, MOST_FIELDS}
use Rattle.cas_http.specs.Heads.{IsFront}
use Rattle.cas_http.proofs.Fronts.{unfinished_is_front, front_is_found, whole_is_front, crowded_overflows, overflow_is_none}
use Rattle.cas_http.proofs.head.read_front.Goals as goal

pub returns-then-request-gt-MOST_FIELDS-clause-front : goal.returns-then-request-gt-MOST_FIELDS-clause-front
returns-then-request-gt-MOST_FIELDS-clause-front c =
    let holds : HoldsSomeRequest (take MOST_HEAD c.args.bytes.now) c.parse.new.self c.in-Ok-Complete.length = search rules in
    crowded_overflows _ c.parse.new.self _ holds c.if-request-gt-MOST_FIELDS.true

pub returns-then-request-gt-MOST_FIELDS-clause-found : goal.returns-then-request-gt-MOST_FIELDS-clause-found
returns-then-request-gt-MOST_FIELDS-clause-found c =
    let holds : HoldsSomeRequest (take MOST_HEAD c.args.bytes.now) c.parse.new.self c.in-Ok-Complete.length = search rules in
    λ h rest reads fits. absurd (overflow_is_none _ h rest (crowded_overflows _ c.parse.new.self _ holds c.if-request-gt-MOST_FIELDS.true) reads fits)

pub returns-in_ok-head-in-Ok-Complete-clause-found : goal.returns-in_ok-head-in-Ok-Complete-clause-found
returns-in_ok-head-in-Ok-Complete-clause-found c =
    let holds : HoldsSomeRequest (take MOST_HEAD c.args.bytes.now) c.parse.new.self c.in-Ok-Complete.length = search rules in
    let whole = whole_is_front c.args.bytes.now c.parse.new.self c.in-Ok-Complete.length c.in_ok-head-in-Ok-Complete.head in
    let parts = whole c.unwrap.result c.unwrap-in-Ok-Complete.result c.unwrap-in-Ok-Complete-2.result holds in
    let here : IsFront c.args.bytes.now (Whole c.in_ok-head-in-Ok-Complete.head) =
    parts c.unwrap.ensures c.unwrap-in-Ok-Complete.ensures c.unwrap-in-Ok-Complete-2.ensures (omega arith) c.in_ok-head-in-Ok-Complete.ensures in
    λ h rest reads fits. front_is_found c.args.bytes.now c.in_ok-head-in-Ok-Complete.head h rest here reads

pub returns-in-Ok-Partial-clause-front : goal.returns-in-Ok-Partial-clause-front
returns-in-Ok-Partial-clause-front c =
    let none : HasNoRequest (take MOST_HEAD c.args.bytes.now) = search rules in
    let may : MayBecomeRequest (take MOST_HEAD c.args.bytes.now) = search rules in
    let P : Front → Type 0 = λ found. IsFront c.args.bytes.now found in
    subst P (sym c.unfinished.ensures) (unfinished_is_front c.args.bytes.now none may)

pub returns-in-Err-clause-found : goal.returns-in-Err-clause-found
returns-in-Err-clause-found c = λ h rest reads fits.
    let overflows : RequestOverflows MOST_FIELDS (take MOST_HEAD c.args.bytes.now) = search rules in
    absurd (overflow_is_none _ h rest overflows reads fits)
