use Rattle.std.proofs.Common.{◌≡◌, ◌∷◌, [], ℕ, List, Option, Some, None, true, false, refl, map, string_bytes, sym, ap, ap₂, subst, ◌∙◌, inl, inr, codes, get_or, arith, Bool}
use Rattle.clap.specs.Faults.{fault_of, is_simple_and_free}
use denote.Enum.Bare.{sameb}
use Rattle.clap.specs.contracts.error.kind.ErrorKind.{the_type}
use Rattle.clap.specs.Kinds.{Kinds, HasKind}
use Rattle.clap.specs.Matches.{found_of}
use Rattle.clap.specs.Values.{kind_of}
use Rattle.clap.specs.declared.error.Error.{Error}
use Rattle.clap.specs.declared.error.kind.ErrorKind.{ErrorKind}
use Rattle.clap.specs.declared.error.kind.ErrorKind.TheVariants.{OutOfMemory}
use Rattle.clap.specs.Simple.{App, is_simple, matches_of, subcommand_of, subcommand_rows_of}
use Rattle.clap.specs.Walk.{Row, Text, rows_of}
use Rattle.clap.specs.declared.parser.matches.ArgMatches.{ArgMatches}
use Rattle.clap.proofs.OnLiterals.{clap_on_literals}
use Rattle.casreg_command.specs.declared.words.LoadOptions.{LoadOptions}
use Rattle.casreg_command.specs.declared.words.Options.{Options}
use Rattle.casreg_command.specs.declared.words.Request.{Request}
use Rattle.casreg_command.specs.declared.words.Request.TheVariants as request
use Rattle.std.specs.Prelude.{IfSome, MatchOption}
use Rattle.casreg_command.specs.Words.{casreg, command_line, faults_of, marks_word, HasCommand, HasNumbers, HasLoad, IsNamed, AsksFor, AreWords}
use Rattle.casreg_command.proofs.Scripts.{has_command}
use Rattle.casreg_command.proofs.words.read_words.Goals as goal

casreg_is_free : is_simple_and_free casreg ≡ true
unfolding clap_on_literals
casreg_is_free = refl

casreg_is_simple : is_simple casreg ≡ true
unfolding clap_on_literals
casreg_is_simple = refl

-- what clap finds wrong, where it is asked of the command and the words behind the name of the program
found : (app : App) (line words : List Text) (m : ArgMatches) → app ≡ casreg → line ≡ command_line words → (is_simple app ≡ true → (rows_of (found_of m) ≡ matches_of app line) × (subcommand_rows_of m ≡ subcommand_of app line))
    → subcommand_rows_of m ≡ subcommand_of casreg (command_line words)
found app line words m is line_is matches = (matches (ap is_simple is ∙ casreg_is_simple)).1 ∙ ap₂ subcommand_of is line_is

taken : (app : App) (line words : List Text) → app ≡ casreg → line ≡ command_line words → (is_simple_and_free app ≡ true → fault_of app line ≡ []) → faults_of words ≡ []
taken app line words is line_is kinds = sym (ap₂ fault_of is line_is) ∙ kinds (ap is_simple_and_free is ∙ casreg_is_free)

pub request_of-requires : goal.request_of-requires
request_of-requires c =
    let ws = map string_bytes c.args.words.now in
    let line_is : map (λ word. word.now) c.deref.result.now ≡ command_line ws = ap (map (λ word. word.now)) c.deref.ensures.value ∙ c.in_ok-line.ensures in
    subst (λ (given : Option (Text × List Row)). HasCommand given) (sym (found _ _ ws c.in-Ok.matches c.in_ok-command.ensures line_is c.in-Ok.ensures.matches))
    (has_command ws (taken _ _ ws c.in_ok-command.ensures line_is c.in-Ok.ensures.kinds))

-- what a request says of the words
module _ (ws : List Text) (rows : Option (Text × List Row)) (is : rows ≡ subcommand_of casreg (command_line ws)) (taken_all : faults_of ws ≡ []) where
  words_of_request : (r : Option Request) → IfSome r (AsksFor rows) → (r ≡ None → (other : Request) → AsksFor rows other → ⊥) → MatchOption r ((other : Request) → AreWords ws other → ⊥) (AreWords ws)
  words_of_request None asks none = λ other are. none refl other (subst (λ (o : Option (Text × List Row)). AsksFor o other) (sym is) are.asks)
  words_of_request (Some request) asks none = record { taken = taken_all; asks = subst (λ (o : Option (Text × List Row)). AsksFor o request) is asks }

pub returns-in-Ok-clause-words : goal.returns-in-Ok-clause-words
returns-in-Ok-clause-words c =
    let ws = map string_bytes c.args.words.now in
    let line_is : map (λ word. word.now) c.deref.result.now ≡ command_line ws = ap (map (λ word. word.now)) c.deref.ensures.value ∙ c.in_ok-line.ensures in
    words_of_request ws (subcommand_rows_of c.in-Ok.matches) (found _ _ ws c.in-Ok.matches c.in_ok-command.ensures line_is c.in-Ok.ensures.matches) (taken _ _ ws c.in_ok-command.ensures line_is c.in-Ok.ensures.kinds)
    c.request_of.result c.request_of.ensures.asks c.request_of.ensures.none

-- an error that is no want of memory has a kind
has_kind : (kinds : Kinds) (e : Error) → (kind_of e ≡ OutOfMemory → ⊥) → HasKind kinds e → kinds ≡ [] → ⊥
has_kind [] e other (inl memory) none = other memory
has_kind [] e other (inr among) none = among
has_kind (k ∷ ks) e other has none = absurd (cc none)

pub returns-clause-words : goal.returns-clause-words
returns-clause-words c other are =
    let ws = map string_bytes c.args.words.now in
    let line_is : map (λ word. word.now) c.deref.result.now ≡ command_line ws = ap (map (λ word. word.now)) c.deref.ensures.value ∙ c.in_ok-line.ensures in
    let kinds = c.in-Err-2.ensures.kinds (ap is_simple_and_free c.in_ok-command.ensures ∙ casreg_is_free) in
    has_kind (fault_of casreg (command_line ws)) c.in-Err-2._error
    (λ memory. let same : c.eq.result ≡ true = c.eq.ensures ∙ ap (λ (k : ErrorKind). sameb the_type k OutOfMemory) (c.kind.ensures ∙ (ap kind_of c.in-Err-2._error-is ∙ memory)) in let no_one : true ≡ false = sym same ∙ c.if-eq.false in absurd (cc no_one))
    (subst (λ (k : Kinds). HasKind k c.in-Err-2._error) (ap₂ fault_of c.in_ok-command.ensures line_is) kinds)
    are.taken

-- words have one reading
same_number : (o : Option ℕ) (a b : ℕ) → o ≡ Some a → o ≡ Some b → a ≡ b
same_number o a b x y = let e : Some a ≡ Some b = sym x ∙ y in cc e

same_marks : (a b : Bool) → marks_word a ≡ marks_word b → a ≡ b
same_marks true true e = refl
same_marks true false e = absurd (let one : 121 ≡ 110 = ap (λ (l : Text). get_or l 0 0) e in omega (arith, one))
same_marks false true e = absurd (let one : 110 ≡ 121 = ap (λ (l : Text). get_or l 0 0) e in omega (arith, one))
same_marks false false e = refl

says_same : (o : Option Text) (a b : Bool) → o ≡ Some (marks_word a) → o ≡ Some (marks_word b) → a ≡ b
says_same o a b x y = let e : Some (marks_word a) ≡ Some (marks_word b) = sym x ∙ y in same_marks a b (cc e)

same_options : (given : Option (Text × List Row)) (a b : Options) → HasNumbers given a → HasNumbers given b → a ≡ b
same_options given a b x y =
    ap (λ (n : ℕ). record { acceptors = n; proposers = a.proposers; tries = a.tries; marks = a.marks }) (same_number _ _ _ x.acceptors y.acceptors)
    ∙ ap (λ (n : ℕ). record { acceptors = b.acceptors; proposers = n; tries = a.tries; marks = a.marks }) (same_number _ _ _ x.proposers y.proposers)
    ∙ ap (λ (n : ℕ). record { acceptors = b.acceptors; proposers = b.proposers; tries = n; marks = a.marks }) (same_number _ _ _ x.tries y.tries)
    ∙ ap (λ (m : Bool). record { acceptors = b.acceptors; proposers = b.proposers; tries = b.tries; marks = m }) (says_same _ _ _ x.marks y.marks)

same_members : (o : Option (List ℕ)) (a b : List ℕ) → o ≡ Some a → o ≡ Some b → a ≡ b
same_members o a b x y = let e : Some a ≡ Some b = sym x ∙ y in cc e

-- these options of a load
abbrev loading : List ℕ → ℕ → ℕ → ℕ → ℕ → Bool → LoadOptions
loading members proposers tries seed lines marks = record { load = record { members = members; proposers = proposers; tries = tries; seed = seed; lines = lines }; marks = marks }

same_load : (given : Option (Text × List Row)) (a b : LoadOptions) → HasLoad given a → HasLoad given b → a ≡ b
same_load given a b x y =
    ap (λ (l : List ℕ). loading l a.load.proposers a.load.tries a.load.seed a.load.lines a.marks) (same_members _ _ _ x.members y.members)
    ∙ ap (λ (n : ℕ). loading b.load.members n a.load.tries a.load.seed a.load.lines a.marks) (same_number _ _ _ x.proposers y.proposers)
    ∙ ap (λ (n : ℕ). loading b.load.members b.load.proposers n a.load.seed a.load.lines a.marks) (same_number _ _ _ x.tries y.tries)
    ∙ ap (λ (n : ℕ). loading b.load.members b.load.proposers b.load.tries n a.load.lines a.marks) (same_number _ _ _ x.seed y.seed)
    ∙ ap (λ (n : ℕ). loading b.load.members b.load.proposers b.load.tries b.load.seed n a.marks) (same_number _ _ _ x.lines y.lines)
    ∙ ap (λ (m : Bool). loading b.load.members b.load.proposers b.load.tries b.load.seed b.load.lines m) (says_same _ _ _ x.marks y.marks)

-- a subcommand has one name
one_name : (given : Option (Text × List Row)) (name other : Text) (A : Type 0) → (name ≡ other → ⊥) → IsNamed name given → IsNamed other given → A
one_name None name other A differ is also = absurd is
one_name (Some found) name other A differ is also = absurd (differ (sym is ∙ also))

script_or_race : codes "script" ≡ codes "race" → ⊥
script_or_race same = cc same

script_or_load : codes "script" ≡ codes "load" → ⊥
script_or_load same = cc same

race_or_load : codes "race" ≡ codes "load" → ⊥
race_or_load same = let first : 114 ≡ 108 = ap (λ (l : Text). get_or l 0 0) same in omega (arith, first)

script_or_audit : codes "script" ≡ codes "audit" → ⊥
script_or_audit same = let first : 115 ≡ 97 = ap (λ (l : Text). get_or l 0 0) same in omega (arith, first)

race_or_audit : codes "race" ≡ codes "audit" → ⊥
race_or_audit same = let first : 114 ≡ 97 = ap (λ (l : Text). get_or l 0 0) same in omega (arith, first)

load_or_audit : codes "load" ≡ codes "audit" → ⊥
load_or_audit same = let first : 108 ≡ 97 = ap (λ (l : Text). get_or l 0 0) same in omega (arith, first)

same_request : (given : Option (Text × List Row)) (a b : Request) → AsksFor given a → AsksFor given b → a ≡ b
same_request given (request.Script a) (request.Script b) x y = ap (λ (o : Options). request.Script o) (same_options given a b x.1 y.1)
same_request given (request.Race a) (request.Race b) x y = ap (λ (o : Options). request.Race o) (same_options given a b x.1 y.1)
same_request given (request.Load a) (request.Load b) x y = ap (λ (o : LoadOptions). request.Load o) (same_load given a b x.1 y.1)
same_request given (request.Script a) (request.Race b) x y = one_name given _ _ _ script_or_race x.0 y.0
same_request given (request.Race a) (request.Script b) x y = one_name given _ _ _ script_or_race y.0 x.0
same_request given (request.Script a) (request.Load b) x y = one_name given _ _ _ script_or_load x.0 y.0
same_request given (request.Load a) (request.Script b) x y = one_name given _ _ _ script_or_load y.0 x.0
same_request given (request.Race a) (request.Load b) x y = one_name given _ _ _ race_or_load x.0 y.0
same_request given (request.Load a) (request.Race b) x y = one_name given _ _ _ race_or_load y.0 x.0
same_request given request.Audit request.Audit x y = refl
same_request given (request.Script a) request.Audit x y = one_name given _ _ _ script_or_audit x.0 y
same_request given request.Audit (request.Script b) x y = one_name given _ _ _ script_or_audit y.0 x
same_request given (request.Race a) request.Audit x y = one_name given _ _ _ race_or_audit x.0 y
same_request given request.Audit (request.Race b) x y = one_name given _ _ _ race_or_audit y.0 x
same_request given (request.Load a) request.Audit x y = one_name given _ _ _ load_or_audit x.0 y
same_request given request.Audit (request.Load b) x y = one_name given _ _ _ load_or_audit y.0 x

-- two readings of the words are one
one_reading : (ws : List Text) (r : Option Request) (other : Request) → MatchOption r ((any : Request) → AreWords ws any → ⊥) (AreWords ws) → AreWords ws other → r ≡ Some other
one_reading ws None other none are = absurd (none other are)
one_reading ws (Some request) other is are = ap (λ (o : Request). Some o) (same_request _ request other is.asks are.asks)

pub returns-in-Ok-clause-only : goal.returns-in-Ok-clause-only
returns-in-Ok-clause-only c other are = one_reading _ c.request_of.result other (returns-in-Ok-clause-words c) are

pub returns-clause-only : goal.returns-clause-only
returns-clause-only c other are = absurd (returns-clause-words c other are)
