-- What answers a request.
use Rattle.std.proofs.Common.{◌≡◌, ℕ, Bool, true, false, ◌||◌, List, [], Result, refl, sym, ap, ◌∙◌, subst}
use Rattle.std.specs.Prelude.{IfOk}
use Rattle.std.proofs.lemmas.Result.{IfOk-weaker}
use Rattle.cas_change.specs.declared.program.Clause.{Clause}
use Rattle.cas_record.specs.declared.answer.Answer.{Answer}
use Rattle.cas_http.specs.declared.code.Code.{Code}
use Rattle.cas_http.specs.declared.request.Request.{Request}
use Rattle.cas_http.specs.declared.request.Request.TheVariants as request
use Rattle.cas_http.specs.Codes.{closes}
use Rattle.cas_http.specs.Answers.{answer_text_of}
use Rattle.cas_http.specs.Outcomes.{reply_text}
use Rattle.cas_http.specs.Requests.{refusal_closes}
use Rattle.cas_http_connection.specs.Connection.{AnswersRequest, answers_refused, answers_change}

-- what answers a request, by the bytes that were made of that, if there was memory
abbrev pub AnsweredBy : {C T E : Type 0} → (C → List ℕ → List Clause → Answer → C → Type 0) → Bool → Request → C → C → Result T E → (T → List ℕ) → Type 0
AnsweredBy changes last asked old new result items = (reply : List ℕ) × AnswersRequest changes last asked old reply new × IfOk result (λ text. items text ≡ reply)

-- a refusal says that the connection closes where its code closes, or the request is the last
same_end : (last closing : Bool) → (closing ≡ true → last ≡ true) → (last || closing) ≡ last
same_end true closing ends = refl
same_end false true ends = sym (ends refl)
same_end false false ends = refl

pub refusal_answered : {C T E : Type 0} (changes : C → List ℕ → List Clause → Answer → C → Type 0)
    (last : Bool) (asked : Request) (code : Code) (changer : C) (result : Result T E) (items : T → List ℕ) (body : List ℕ)
    → asked ≡ request.Refused code → (refusal_closes asked ≡ true → last ≡ true) → body ≡ [] → IfOk result (λ text. items text ≡ answer_text_of code body (last || closes code))
    → AnsweredBy changes last asked changer changer result items
refusal_answered changes last asked code changer result items body is ends empty made =
    let end : (last || closes code) ≡ last = same_end last (closes code) (λ closing. ends (ap refusal_closes is ∙ closing)) in
    let same : answer_text_of code body (last || closes code) ≡ answer_text_of code [] last = ap (λ b. answer_text_of code b (last || closes code)) empty ∙ ap (answer_text_of code []) end in (
      answer_text_of code [] last,
      subst (λ (r : Request). AnswersRequest changes last r changer (answer_text_of code [] last) changer) (sym is) answers_refused,
      IfOk-weaker result _ _ (λ text told. told ∙ same) made,
    )

pub change_answered : {C T E : Type 0} (changes : C → List ℕ → List Clause → Answer → C → Type 0)
    (last : Bool) (asked : Request) (key : List ℕ) (program : List Clause) (told : Answer) (old new : C) (result : Result T E) (items : T → List ℕ)
    → asked ≡ request.Change key program → changes old key program told new → IfOk result (λ text. items text ≡ reply_text told last)
    → AnsweredBy changes last asked old new result items
change_answered changes last asked key program told old new result items is gave made =
    (reply_text told last, subst (λ (r : Request). AnswersRequest changes last r old (reply_text told last) new) (sym is) (answers_change gave), made)
