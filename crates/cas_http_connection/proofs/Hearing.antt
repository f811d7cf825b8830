-- What a reader of requests heard of its source.
use Rattle.std.proofs.Common.{◌≡◌, ◌≢◌, ℕ, List, [], ◌++◌, length, drop, Option, Some, None, Ok, Err, refl, sym, ap, ◌∙◌, subst, append_assoc, append-nil, arith}
use Rattle.std.proofs.lemmas.List.{drop_all}
use Rattle.std.specs.Io.{StartsWith}
use Rattle.std.specs.Io.KnownBytes.{Consumes}
use Rattle.std.proofs.KnownBytes.{Consumes-nil, Consumes-trans, starts_with_rest}
use Rattle.cas_lines.specs.Source.{Taken, Bytes, Fault}
use Rattle.cas_http.specs.declared.request.Spelled.{Spelled}
use Rattle.cas_http.specs.Requests.{BeginsWith}
use Rattle.cas_http_connection.specs.declared.fault.ConnectionFault.{ConnectionFault}
use Rattle.cas_http_connection.specs.declared.fault.ConnectionFault.TheVariants as fault
use Rattle.cas_http_connection.specs.Input.{Gave, gave_nothing, gave_more, HearsRequest}

-- what was seen to begin with a request, or with none
pub begins_with : (seen held : List ℕ) (found told : Option Spelled) → seen ≡ held → found ≡ told → BeginsWith seen found → BeginsWith held told
begins_with seen held found told same is begins = subst (λ b. BeginsWith b told) same (subst (BeginsWith seen) is begins)

-- the bytes held grew by what calls gave
pub record HeldGrew {S : Type 0} (gives : S → Taken → S → Type 0) (old source : S) (input left : Option (List ℕ)) (first held : List ℕ) : Type 0 where
  pub more : List ℕ
  pub gave : Gave gives (λ bytes. BeginsWith (first ++ bytes) None) old more source
  pub taken : Consumes input left more
  pub grown : held ≡ first ++ more

pub gathered_nothing : {S : Type 0} (gives : S → Taken → S → Type 0) (source : S) (input : Option (List ℕ)) (held : List ℕ) → HeldGrew gives source source input input held held
gathered_nothing gives source input held = record { more = []; gave = gave_nothing; taken = Consumes-nil input; grown = sym (append-nil held) }

-- one piece more
pub gathered_more : {S : Type 0} (gives : S → Taken → S → Type 0) (old mid source : S) (input between left : Option (List ℕ)) (first held new : List ℕ)
    → HeldGrew gives old mid input between first held → BeginsWith held None → StartsWith new held → gives mid (Bytes (drop (length held) new)) source → Consumes between left (drop (length held) new)
    → HeldGrew gives old source input left first new
gathered_more gives old mid source input between left first held new g begins front gave taken =
    let piece = drop (length held) new in record {
      more = g.more ++ piece;
      gave = gave_more g.gave (subst (λ b. BeginsWith b None) g.grown begins) gave;
      taken = Consumes-trans input between left g.more piece g.taken taken;
      grown = starts_with_rest new held front ∙ ap (λ b. b ++ piece) g.grown ∙ append_assoc first g.more piece;
    }

-- a request is there
pub hears_request : {S : Type 0} (gives : S → Taken → S → Type 0) (old source : S) (input left : Option (List ℕ)) (first held rest : List ℕ) (asked : Spelled)
    → HeldGrew gives old source input left first held → BeginsWith held (Some asked) → rest ≡ drop asked.length held → HearsRequest gives (Ok (Some asked)) old source input left first rest
hears_request gives old source input left first held rest asked g begins is = record {
  more = g.more;
  mid = source;
  gave = g.gave;
  stop = None;
  stops = refl;
  taken = g.taken;
  at_end = λ e. cc;
  tells = (subst (λ b. BeginsWith b (Some asked)) g.grown begins, refl, is ∙ ap (drop asked.length) g.grown);
}

-- bytes that stayed grew by nothing
pub no_piece : (input left : Option (List ℕ)) (held new : List ℕ) → new ≡ held → Consumes input left (drop (length held) new) → Consumes input left []
no_piece input left held new same taken =
    subst (Consumes input left) (ap (drop (length held)) same ∙ drop_all (length held) held (omega arith)) taken

-- the source failed, or there was no memory for another piece
pub hears_fault : {S : Type 0} (gives : S → Taken → S → Type 0) (old mid source : S) (input between left : Option (List ℕ)) (first held rest : List ℕ) (f : ConnectionFault)
    → HeldGrew gives old mid input between first held → BeginsWith held None → rest ≡ held → Consumes between left []
    → (f ≡ fault.ReadFault → gives mid Fault source) → (f ≡ fault.NoMemory → source ≡ mid) → f ≢ fault.WriteFault → ((at : ℕ) → f ≢ fault.Cut at)
    → HearsRequest gives (Err f) old source input left first rest
hears_fault gives old mid source input between left first held rest fault.ReadFault g begins is kept failed unasked unwritten uncut = record {
  more = g.more;
  mid = mid;
  gave = g.gave;
  stop = Some Fault;
  stops = failed refl;
  taken = subst (Consumes input left) (append-nil g.more) (Consumes-trans input between left g.more [] g.taken kept);
  at_end = λ e. cc;
  tells = (subst (λ b. BeginsWith b None) g.grown begins, refl, is ∙ g.grown);
}
hears_fault gives old mid source input between left first held rest fault.NoMemory g begins is kept failed unasked unwritten uncut = record {
  more = g.more;
  mid = mid;
  gave = g.gave;
  stop = None;
  stops = unasked refl;
  taken = subst (Consumes input left) (append-nil g.more) (Consumes-trans input between left g.more [] g.taken kept);
  at_end = λ e. cc;
  tells = (refl, is ∙ g.grown);
}
hears_fault gives old mid source input between left first held rest fault.WriteFault g begins is kept failed unasked unwritten uncut = absurd (unwritten refl)
hears_fault gives old mid source input between left first held rest (fault.Cut at) g begins is kept failed unasked unwritten uncut = absurd (uncut at refl)
