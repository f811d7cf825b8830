-- The words of the command line, as clap reads them.
use Rattle.std.specs.Prelude.{◌≡◌, ◌≤◌, ◌⊎◌, ⊤, ℕ, Bool, true, false, List, [], ◌∷◌, codes, Option, Some, is_some, option_map, option_and_then, IsSomeAnd}
use Rattle.std.specs.Str.Parse.{digits_value, without_leading_plus}
use Rattle.clap.specs.Kinds.{Kinds}
use Rattle.clap.specs.Faults.{fault_of}
use Rattle.clap.specs.Values.{IsUnsignedIn}
use Rattle.clap.specs.Walk.{Row, one_of, first_of}
use Rattle.clap.specs.Simple.{subcommand_of}
use Rattle.clap.specs.Words.{App, Rule, Text, new_app, new_rule, with_rule, with_subcommand}
use Rattle.clap.specs.declared.builder.action.ArgAction.TheVariants.{Set}
use Rattle.clap.specs.declared.builder.value_parser.ValueParser.{ValueParser}
use Rattle.clap.specs.declared.builder.value_parser.ValueParser.TheVariants.{Unsigned, String}
use Rattle.cas_world.specs.Openings.Opening.{members_to}
use Rattle.casreg_script.specs.Load.{IsLoad}
use Rattle.casreg_script.specs.declared.load.Load.{Load}
use Rattle.casreg_command.specs.declared.words.LoadOptions.{LoadOptions}
use Rattle.casreg_command.specs.declared.words.Options.{Options}
use Rattle.casreg_command.specs.declared.words.Request.{Request}
use Rattle.casreg_command.specs.declared.words.Request.TheVariants as request

-- ---- the commands
-- an option whose value is read so, and which has this value where it is not given
abbrev pub option_of : Text → ValueParser → Text → Rule
option_of name parser fallback = record (new_rule name) {
  long = Some name;
  action = Some Set;
  defaults = fallback ∷ [];
  parser = Some parser;
}

-- a command of this name over 1 to 9 acceptors, with 1 to 16 proposers of clients, whose callers try up to 64 times, and whose record may
-- be written
abbrev pub over_cluster : Text → App
over_cluster name = with_rule (with_rule (with_rule (with_rule (new_app name) (option_of (codes "acceptors") (Unsigned 1 9) (codes "3")))
    (option_of (codes "proposers") (Unsigned 1 16) (codes "1"))) (option_of (codes "tries") (Unsigned 1 64) (codes "1"))) (option_of (codes "marks") String (codes "no"))

-- a script
abbrev pub script : App
script = over_cluster (codes "script")

-- a race
abbrev pub race : App
race = over_cluster (codes "race")

-- a load by a seed, of up to 100,000 lines
abbrev pub load : App
load = with_rule (with_rule (over_cluster (codes "load")) (option_of (codes "seed") (Unsigned 0 18446744073709551615) (codes "1")))
    (option_of (codes "lines") (Unsigned 0 100000) (codes "1000"))

-- an audit, without options
abbrev pub audit : App
audit = new_app (codes "audit")

-- the program without its subcommands, one of which is required
abbrev pub bare : App
bare = let app = new_app (codes "casreg") in record app { top = record app.top { subcommand_required = true } }

-- with those that run something over a cluster
abbrev pub running : App
running = with_subcommand (with_subcommand (with_subcommand bare script.top) race.top) load.top

abbrev pub casreg : App
casreg = with_subcommand running audit.top

-- ---- what clap makes of the words
-- the words behind the name of the program
abbrev pub command_line : List Text → List Text
command_line words = codes "casreg" ∷ words

-- what clap finds wrong with them
abbrev pub faults_of : List Text → Kinds
faults_of words = fault_of casreg (command_line words)

-- the number that a text spells in decimal digits, behind a plus or not
abbrev pub number_in : Text → ℕ
number_in text = digits_value 10 (without_leading_plus text)

-- the text that an option has: the one that is given, or its default
abbrev pub text_of : Text → Option (Text × List Row) → Option Text
text_of name given = option_and_then (λ found. one_of name found.1) given

abbrev pub number_of : Text → Option (Text × List Row) → Option ℕ
number_of name given = option_map number_in (text_of name given)

-- it is a text, and the number that it spells is from this one to that one
abbrev pub IsNumberIn : ℕ → ℕ → Option Text → Type 0
IsNumberIn least most found = (text : Text) × (found ≡ Some text) × IsUnsignedIn least most text

-- a subcommand of this name was met
abbrev pub IsNamed : Text → Option (Text × List Row) → Type 0
IsNamed name given = IsSomeAnd given (λ found. found.0 ≡ name)

-- each option of a cluster has such a number
abbrev pub HasOptions : List Row → Type 0
HasOptions rows = IsNumberIn 1 9 (one_of (codes "acceptors") rows) × IsNumberIn 1 16 (one_of (codes "proposers") rows) × IsNumberIn 1 64 (one_of (codes "tries") rows)

-- and so have the other two of a load
abbrev pub HasDrawing : List Row → Type 0
HasDrawing rows = IsNumberIn 0 18446744073709551615 (one_of (codes "seed") rows) × IsNumberIn 0 100000 (one_of (codes "lines") rows)

-- `--marks` of such a command has some text
abbrev pub HasMarks : List Row → Type 0
HasMarks rows = is_some (first_of (codes "marks") rows) ≡ true

-- a subcommand of this name has these options
abbrev pub HasAll : Text → List Row → Type 0
HasAll name rows = (((name ≡ codes "script") ⊎ (name ≡ codes "race")) × HasOptions rows × HasMarks rows)
    ⊎ ((name ≡ codes "load") × HasOptions rows × HasMarks rows × HasDrawing rows) ⊎ (name ≡ codes "audit")

-- a script, a race, a load or an audit was met, with all of its options
abbrev pub HasCommand : Option (Text × List Row) → Type 0
HasCommand given = IsSomeAnd given (λ found. HasAll found.0 found.1)

-- what `--marks` says: whether the record is written
abbrev pub marks_word : Bool → Text
marks_word true = codes "yes"
marks_word false = codes "no"

-- it says neither
abbrev pub SaysNeither : List Row → Type 0
SaysNeither rows = (marks : Bool) → first_of (codes "marks") rows ≡ Some (marks_word marks) → ⊥

-- the numbers that the options of a script or a race have, and what the last of them says
pub record HasNumbers (given : Option (Text × List Row)) (options : Options) : Type 0 where
  pub acceptors : number_of (codes "acceptors") given ≡ Some options.acceptors
  pub proposers : number_of (codes "proposers") given ≡ Some options.proposers
  pub tries : number_of (codes "tries") given ≡ Some options.tries
  pub marks : option_and_then (λ found. first_of (codes "marks") found.1) given ≡ Some (marks_word options.marks)

-- the numbers that the options of a load have, and what `--marks` says
pub record HasLoad (given : Option (Text × List Row)) (options : LoadOptions) : Type 0 where
  pub members : option_map members_to (number_of (codes "acceptors") given) ≡ Some options.load.members
  pub proposers : number_of (codes "proposers") given ≡ Some options.load.proposers
  pub tries : number_of (codes "tries") given ≡ Some options.load.tries
  pub seed : number_of (codes "seed") given ≡ Some options.load.seed
  pub lines : number_of (codes "lines") given ≡ Some options.load.lines
  pub marks : option_and_then (λ found. first_of (codes "marks") found.1) given ≡ Some (marks_word options.marks)

-- the subcommand that was met asks for that
abbrev pub AsksFor : Option (Text × List Row) → Request → Type 0
AsksFor given (request.Script options) = IsNamed (codes "script") given × HasNumbers given options
AsksFor given (request.Race options) = IsNamed (codes "race") given × HasNumbers given options
AsksFor given (request.Load options) = IsNamed (codes "load") given × HasLoad given options
AsksFor given request.Audit = IsNamed (codes "audit") given

-- The words are those of a command that asks for this: clap finds nothing wrong, the options have these numbers, and `--marks` says yes or no.
pub record AreWords (words : List Text) (request : Request) : Type 0 where
  pub taken : faults_of words ≡ []
  pub asks : AsksFor (subcommand_of casreg (command_line words)) request

-- each option is within its bounds
pub record AreOptionsInRange (options : Options) : Type 0 where
  pub some_acceptors : 1 ≤ options.acceptors
  pub few_acceptors : options.acceptors ≤ 9
  pub some_proposers : 1 ≤ options.proposers
  pub few_proposers : options.proposers ≤ 16
  pub some_tries : 1 ≤ options.tries
  pub few_tries : options.tries ≤ 64

pub record IsLoadInRange (load : Load) : Type 0 where
  pub is_load : IsLoad load
  pub few_tries : load.tries ≤ 64
  pub few_lines : load.lines ≤ 100000

abbrev pub IsInRange : Request → Type 0
IsInRange (request.Script options) = AreOptionsInRange options
IsInRange (request.Race options) = AreOptionsInRange options
IsInRange (request.Load options) = IsLoadInRange options.load
IsInRange request.Audit = ⊤

-- who the members are that are asked for; nobody of an audit
abbrev pub members_of : Request → List ℕ
members_of (request.Script options) = members_to options.acceptors
members_of (request.Race options) = members_to options.acceptors
members_of (request.Load options) = options.load.members
members_of request.Audit = []

abbrev pub proposers_of : Request → ℕ
proposers_of (request.Script options) = options.proposers
proposers_of (request.Race options) = options.proposers
proposers_of (request.Load options) = options.load.proposers
proposers_of request.Audit = 0
