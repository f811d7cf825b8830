-- A connection on its way, and its ends.
use Rattle.std.proofs.Common.{◌≡◌, ◌≢◌, ℕ, suc, ◌+◌, ◌≤◌, true, false, ◌||◌, ◌==◌, List, [], ◌∷◌, ◌++◌, length, drop, Option, Some, None, Result, Ok, Err, refl, sym, ap, ◌∙◌, subst, append-nil, arith}
use Rattle.std.proofs.lemmas.List.{length-append, length-drop}
use Rattle.std.specs.Io.KnownBytes.{Appends, Consumes, IsAtEnd}
use Rattle.std.proofs.KnownBytes.{Appends-nil, Appends-trans, Consumes-nil, Consumes-trans}
use Rattle.cas_change.specs.declared.program.Clause.{Clause}
use Rattle.cas_record.specs.declared.answer.Answer.{Answer}
use Rattle.cas_lines.specs.Source.{Taken, End, Fault}
use Rattle.cas_http.specs.declared.request.Spelled.{Spelled}
use Rattle.cas_http.specs.declared.head.TheConstants.{MOST_HEAD, MOST_BODY}
use Rattle.cas_http.specs.Requests.{refusal_closes, BeginsWith}
use Rattle.cas_http.proofs.RequestSizes.{request_fits, refusal_is_last}
use Rattle.cas_http_connection.specs.declared.connection.TheConstants.{MOST_REQUESTS}
use Rattle.cas_http_connection.specs.declared.fault.ConnectionFault.{ConnectionFault}
use Rattle.cas_http_connection.specs.declared.fault.ConnectionFault.TheVariants as fault
use Rattle.cas_http_connection.specs.Input.{is_last, SpellsRequests, spells_none, spells_one_more, IsOpen, Gave, gave_nothing, Stops, HearsRequest}
use Rattle.cas_http_connection.specs.Connection.{AnswersRequest, Answers, answers_none, answers_one_more, Puts, Parts, Serves}
use Rattle.cas_http_connection.specs.Connection.{Ends, closes, input_ends, is_cut, reading_fails, writing_fails, no_memory_to_read, no_memory_to_answer}
use Rattle.cas_http_connection.proofs.Spelling.{spells_on, gave_both}

-- a source went on, and a request was answered
abbrev read_on : {S C : Type 0} → Parts S C → S → Option (List ℕ) → Parts S C
read_on now source left = record { source = source; left = left; changer = now.changer; written = now.written }

abbrev answered_by : {S C : Type 0} → Parts S C → C → Option (List ℕ) → Parts S C
answered_by now changer written = record { source = now.source; left = now.left; changer = changer; written = written }

module _ {S C : Type 0} (gives : S → Taken → S → Type 0) (changes : C → List ℕ → List Clause → Answer → C → Type 0) (first : Parts S C) where
  -- so many requests were answered, of so many bytes, and the connection goes on. These bytes are held
  pub record Midway (answered passed : ℕ) (held : List ℕ) (now : Parts S C) : Type 0 where
    pub bytes : List ℕ
    pub gave : Gave gives IsOpen first.source bytes now.source
    pub taken : Consumes first.left now.left bytes
    pub requests : List Spelled
    pub spells : SpellsRequests bytes requests false held
    pub text : List ℕ
    pub answers : Answers changes first.changer requests text now.changer
    pub written : Appends first.written now.written text
    pub counted : length requests ≡ answered
    pub sized : passed + length held ≡ length bytes

  pub midway_nothing : Midway 0 0 [] first
  midway_nothing = record {
    bytes = [];
    gave = gave_nothing;
    taken = Consumes-nil first.left;
    requests = [];
    spells = spells_none;
    text = [];
    answers = answers_none;
    written = Appends-nil first.written;
    counted = refl;
    sized = refl;
  }

  -- where more was heard, a reader stands before these bytes, and its source before the call that stopped it
  pub record Further (answered passed : ℕ) (before : List ℕ) (mid : S) (left : Option (List ℕ)) (now : Parts S C) : Type 0 where
    pub bytes : List ℕ
    pub gave : Gave gives IsOpen first.source bytes mid
    pub taken : Consumes first.left left bytes
    pub requests : List Spelled
    pub spells : SpellsRequests bytes requests false before
    pub text : List ℕ
    pub answers : Answers changes first.changer requests text now.changer
    pub written : Appends first.written now.written text
    pub counted : length requests ≡ answered
    pub sized : passed + length before ≡ length bytes

  further : (answered passed : ℕ) (held more : List ℕ) (mid : S) (left : Option (List ℕ)) (now : Parts S C)
      → Midway answered passed held now → Gave gives (λ later. BeginsWith (held ++ later) None) now.source more mid → Consumes now.left left more
      → Further answered passed (held ++ more) mid left now
  further answered passed held more mid left now m gave taken = record {
    bytes = m.bytes ++ more;
    gave = gave_both gives first.source now.source m.bytes held m.requests mid more m.spells m.gave gave;
    taken = Consumes-trans first.left now.left left m.bytes more m.taken taken;
    requests = m.requests;
    spells = spells_on m.bytes more m.requests false held m.spells;
    text = m.text;
    answers = m.answers;
    written = m.written;
    counted = m.counted;
    sized = omega (arith, m.sized, length-append m.bytes more, length-append held more);
  }

  -- ---- ends
  -- with nothing written behind the answers
  ends_here : (answered passed : ℕ) (before : List ℕ) (mid new_source : S) (left : Option (List ℕ)) (now : Parts S C) (result : Result (Unit {0}) ConnectionFault) (stop : Option Taken)
      → (f : Further answered passed before mid left now) → Stops gives mid stop new_source → (stop ≡ Some End → IsAtEnd left)
      → Ends changes (length f.requests) (length f.bytes) before result false stop [] now.changer now.changer
      → Serves gives changes result first (read_on now new_source left)
  ends_here answered passed before mid new_source left now result stop f stops at_end ends = record {
    bytes = f.bytes;
    mid = mid;
    gave = f.gave;
    stop = stop;
    stops = stops;
    taken = f.taken;
    at_end = at_end;
    requests = f.requests;
    closed = false;
    rest = before;
    spells = f.spells;
    text = f.text;
    changer = now.changer;
    answers = f.answers;
    front = [];
    ends = ends;
    written = subst (Appends first.written now.written) (sym (append-nil f.text)) f.written;
  }

  -- the input ended where nothing is held, or where something is
  pub input_ended : (answered passed : ℕ) (held rest : List ℕ) (new_source : S) (left : Option (List ℕ)) (now : Parts S C) → Midway answered passed held now
      → HearsRequest gives (Ok None) now.source new_source now.left left held rest → rest ≡ []
      → Serves gives changes (Ok tt) first (read_on now new_source left)
  input_ended answered passed held rest new_source left now m h none =
      let f = further answered passed held h.more h.mid left now m h.gave h.taken in
      ends_here answered passed (held ++ h.more) h.mid new_source left now (Ok tt) (Some End) f
      (subst (λ s. Stops gives h.mid s new_source) h.tells.1 h.stops) (λ _. h.at_end h.tells.1)
      (input_ends (sym h.tells.2 ∙ none) h.tells.0)

  pub input_cut : (answered passed : ℕ) (held rest : List ℕ) (new_source : S) (left : Option (List ℕ)) (now : Parts S C) → Midway answered passed held now
      → HearsRequest gives (Ok None) now.source new_source now.left left held rest → rest ≢ []
      → Serves gives changes (Err (fault.Cut (passed + length rest))) first (read_on now new_source left)
  input_cut answered passed held rest new_source left now m h some =
      let f = further answered passed held h.more h.mid left now m h.gave h.taken in
      ends_here answered passed (held ++ h.more) h.mid new_source left now (Err (fault.Cut (passed + length rest))) (Some End) f
      (subst (λ s. Stops gives h.mid s new_source) h.tells.1 h.stops) (λ _. h.at_end h.tells.1)
      (is_cut (λ none. some (h.tells.2 ∙ none)) h.tells.0 (ap (λ b. passed + length b) h.tells.2 ∙ f.sized))

  pub input_over : (answered passed : ℕ) (held rest : List ℕ) (new_source : S) (left : Option (List ℕ)) (now : Parts S C) (result : Result (Unit {0}) ConnectionFault) → Midway answered passed held now
      → HearsRequest gives (Ok None) now.source new_source now.left left held rest → (rest ≡ [] → result ≡ Ok tt) → (rest ≢ [] → result ≡ Err (fault.Cut (passed + length rest)))
      → Serves gives changes result first (read_on now new_source left)
  input_over answered passed held [] new_source left now result m h ended cut =
      subst (λ r. Serves gives changes r first (read_on now new_source left)) (sym (ended refl)) (input_ended answered passed held [] new_source left now m h refl)
  input_over answered passed held (byte ∷ rest) new_source left now result m h ended cut =
      let some : byte ∷ rest ≢ [] = λ none. cc in
      subst (λ r. Serves gives changes r first (read_on now new_source left)) (sym (cut some)) (input_cut answered passed held (byte ∷ rest) new_source left now m h some)

  -- no request could be read
  pub read_failed : (answered passed : ℕ) (held rest : List ℕ) (new_source : S) (left : Option (List ℕ)) (now : Parts S C) (f : ConnectionFault) → Midway answered passed held now
      → HearsRequest gives (Err f) now.source new_source now.left left held rest
      → Serves gives changes (Err f) first (read_on now new_source left)
  read_failed answered passed held rest new_source left now fault.ReadFault m h =
      let f = further answered passed held h.more h.mid left now m h.gave h.taken in
      ends_here answered passed (held ++ h.more) h.mid new_source left now (Err fault.ReadFault) (Some Fault) f
      (subst (λ s. Stops gives h.mid s new_source) h.tells.1 h.stops) (λ e. cc) (reading_fails h.tells.0)
  read_failed answered passed held rest new_source left now fault.NoMemory m h =
      let f = further answered passed held h.more h.mid left now m h.gave h.taken in
      ends_here answered passed (held ++ h.more) h.mid new_source left now (Err fault.NoMemory) None f (subst (λ s. Stops gives h.mid s new_source) h.tells.0 h.stops) (λ e. cc) no_memory_to_read
  read_failed answered passed held rest new_source left now fault.WriteFault m h = absurd h.tells
  read_failed answered passed held rest new_source left now (fault.Cut at) m h = absurd h.tells

  -- ---- a request is there
  pub record IsNext (answered passed : ℕ) (asked : Spelled) (rest : List ℕ) (now : Parts S C) : Type 0 where
    pub before : List ℕ
    pub at : Further answered passed before now.source now.left now
    pub begins : BeginsWith before (Some asked)
    pub behind : rest ≡ drop asked.length before

  pub next_request : (answered passed : ℕ) (held rest : List ℕ) (asked : Spelled) (new_source : S) (left : Option (List ℕ)) (now : Parts S C) → Midway answered passed held now
      → HearsRequest gives (Ok (Some asked)) now.source new_source now.left left held rest
      → IsNext answered passed asked rest (read_on now new_source left)
  next_request answered passed held rest asked new_source left now m h =
      let same : new_source ≡ h.mid = subst (λ s. Stops gives h.mid s new_source) h.tells.1 h.stops in
      let f = further answered passed held h.more new_source left now m (subst (Gave gives (λ later. BeginsWith (held ++ later) None) now.source h.more) (sym same) h.gave) h.taken in record {
        before = held ++ h.more;
        at = record {
          bytes = f.bytes;
          gave = f.gave;
          taken = f.taken;
          requests = f.requests;
          spells = f.spells;
          text = f.text;
          answers = f.answers;
          written = f.written;
          counted = f.counted;
          sized = f.sized;
        };
        begins = h.tells.0;
        behind = h.tells.2;
      }

  -- its answer says that the connection closes where a refusal does
  pub last_told : (answered passed : ℕ) (asked : Spelled) (rest : List ℕ) (now : Parts S C)
      → IsNext answered passed asked rest now → refusal_closes asked.request ≡ true → is_last answered asked ≡ true
  last_told answered passed asked rest now n closing = ap (λ b. b || (suc answered == MOST_REQUESTS)) (refusal_is_last n.before asked n.begins closing)

  -- it has no more bytes than the longest
  pub next_fits : (answered passed : ℕ) (asked : Spelled) (rest : List ℕ) (now : Parts S C) → IsNext answered passed asked rest now → asked.length ≤ MOST_HEAD + MOST_BODY
  next_fits answered passed asked rest now n = (request_fits n.before asked n.begins).1

  -- the next answer with the number of those before
  numbered : (answered : ℕ) (asked : Spelled) (requests : List Spelled) (old new : C) (reply : List ℕ) → length requests ≡ answered
      → AnswersRequest changes (is_last answered asked) asked.request old reply new
      → AnswersRequest changes (is_last (length requests) asked) asked.request old reply new
  numbered answered asked requests old new reply counted = subst (λ n. AnswersRequest changes (is_last n asked) asked.request old reply new) (sym counted)

  -- it is answered, and the connection goes on
  pub goes_on : (answered passed : ℕ) (asked : Spelled) (rest reply : List ℕ) (now : Parts S C) (changer : C) (written : Option (List ℕ)) → IsNext answered passed asked rest now
      → AnswersRequest changes (is_last answered asked) asked.request now.changer reply changer → Appends now.written written reply → is_last answered asked ≡ false
      → Midway (answered + 1) (passed + asked.length) rest (answered_by now changer written)
  goes_on answered passed asked rest reply now changer written n answers appends still =
      let f = n.at in
      let more : SpellsRequests f.bytes (f.requests ++ asked ∷ []) (is_last (length f.requests) asked) (drop asked.length n.before) = spells_one_more f.spells n.begins in
      let stays : is_last (length f.requests) asked ≡ false = ap (λ k. is_last k asked) f.counted ∙ still in record {
        bytes = f.bytes;
        gave = f.gave;
        taken = f.taken;
        requests = f.requests ++ asked ∷ [];
        spells = subst (SpellsRequests f.bytes (f.requests ++ asked ∷ []) false) (sym n.behind)
            (subst (λ b. SpellsRequests f.bytes (f.requests ++ asked ∷ []) b (drop asked.length n.before)) stays more);
        text = f.text ++ reply;
        answers = answers_one_more asked f.answers (numbered answered asked f.requests now.changer changer reply f.counted answers);
        written = Appends-trans first.written now.written written f.text reply f.written appends;
        counted = omega (arith, f.counted, length-append f.requests (asked ∷ []));
        sized =
            let fits = (request_fits n.before asked n.begins).0 in
            let left : length rest ≡ length (drop asked.length n.before) = ap length n.behind in
            omega (arith, f.sized, fits, left, length-drop asked.length n.before);
      }

  -- it is answered, and the connection closes
  pub closed_behind : (answered passed : ℕ) (asked : Spelled) (rest reply : List ℕ) (now : Parts S C) (changer : C) (written : Option (List ℕ)) → IsNext answered passed asked rest now
      → AnswersRequest changes (is_last answered asked) asked.request now.changer reply changer → Appends now.written written reply → is_last answered asked ≡ true
      → Serves gives changes (Ok tt) first (answered_by now changer written)
  closed_behind answered passed asked rest reply now changer written n answers appends ends =
      let f = n.at in
      let more : SpellsRequests f.bytes (f.requests ++ asked ∷ []) (is_last (length f.requests) asked) (drop asked.length n.before) = spells_one_more f.spells n.begins in
      let stops : is_last (length f.requests) asked ≡ true = ap (λ k. is_last k asked) f.counted ∙ ends in record {
        bytes = f.bytes;
        mid = now.source;
        gave = f.gave;
        stop = None;
        stops = refl;
        taken = f.taken;
        at_end = λ e. cc;
        requests = f.requests ++ asked ∷ [];
        closed = true;
        rest = drop asked.length n.before;
        spells = subst (λ b. SpellsRequests f.bytes (f.requests ++ asked ∷ []) b (drop asked.length n.before)) stops more;
        text = f.text ++ reply;
        changer = changer;
        answers = answers_one_more asked f.answers (numbered answered asked f.requests now.changer changer reply f.counted answers);
        front = [];
        ends = closes;
        written = subst (Appends first.written written) (sym (append-nil (f.text ++ reply))) (Appends-trans first.written now.written written f.text reply f.written appends);
      }

  -- its answer was not written whole
  pub broken_off : (answered passed : ℕ) (asked : Spelled) (rest reply : List ℕ) (now : Parts S C) (changer : C) (written : Option (List ℕ)) (f : ConnectionFault)
      → IsNext answered passed asked rest now
      → AnswersRequest changes (is_last answered asked) asked.request now.changer reply changer → Puts (Err f) now.written written reply
      → Serves gives changes (Err f) first (answered_by now changer written)
  broken_off answered passed asked rest reply now changer written fault.WriteFault n answers (count, short, appends) =
      let f = n.at in record {
        bytes = f.bytes;
        mid = now.source;
        gave = f.gave;
        stop = None;
        stops = refl;
        taken = f.taken;
        at_end = λ e. cc;
        requests = f.requests;
        closed = false;
        rest = n.before;
        spells = f.spells;
        text = f.text;
        changer = now.changer;
        answers = f.answers;
        front = _;
        ends = writing_fails n.begins (numbered answered asked f.requests now.changer changer reply f.counted answers) short;
        written = Appends-trans first.written now.written written f.text _ f.written appends;
      }
  broken_off answered passed asked rest reply now changer written fault.NoMemory n answers same =
      let f = n.at in record {
        bytes = f.bytes;
        mid = now.source;
        gave = f.gave;
        stop = None;
        stops = refl;
        taken = f.taken;
        at_end = λ e. cc;
        requests = f.requests;
        closed = false;
        rest = n.before;
        spells = f.spells;
        text = f.text;
        changer = now.changer;
        answers = f.answers;
        front = [];
        ends = no_memory_to_answer n.begins (numbered answered asked f.requests now.changer changer reply f.counted answers);
        written = subst (λ w. Appends first.written w (f.text ++ [])) (sym same) (subst (Appends first.written now.written) (sym (append-nil f.text)) f.written);
      }
  broken_off answered passed asked rest reply now changer written fault.ReadFault n answers puts = absurd puts
  broken_off answered passed asked rest reply now changer written (fault.Cut at) n answers puts = absurd puts
