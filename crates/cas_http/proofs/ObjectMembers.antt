-- The members of an object as they are seen in a map.
use Rattle.std.proofs.Common.{◌≡◌, suc, List, [], ◌∷◌, length, Some, None, String, string_bytes, slice_get, refl, ap, sym, ◌∙◌, arith}
use Rattle.std.specs.Option.{option_and_then}
use Rattle.std.specs.declared.alloc.Global.{Global}
use Rattle.serde_json.specs.Data.{Data, null, boolean, number, string, array, object, Members}
use Rattle.serde_json.specs.Find.{as_object}
use Rattle.serde_json.specs.View.{view, members_view}
use Rattle.serde_json.specs.declared.value.Value.{Value}
use Rattle.cas_http.specs.Programs.{only_of, only_member, count_members, member_count}

is_object : (d : Data) (ms : Members) → Some ms ≡ as_object d → d ≡ object ms
is_object null ms e = cc
is_object (boolean b) ms e = cc
is_object (number n) ms e = cc
is_object (string s) ms e = cc
is_object (array ds) ms e = cc
is_object (object found) ms e = cc

count-view : (entries : List (String Global × Value)) → count_members (members_view entries) ≡ length entries
count-view [] = refl
count-view (entry ∷ entries) = ap (λ n. suc n) (count-view entries)

pub counted : (d : Data) (entries : List (String Global × Value)) → Some (members_view entries) ≡ as_object d → member_count d ≡ length entries
counted d entries e = ap member_count (is_object d (members_view entries) e) ∙ count-view entries

none_alone : (entries : List (String Global × Value)) → (length entries ≡ 1 → ⊥) → only_of (members_view entries) ≡ None
none_alone [] many = refl
none_alone (one ∷ []) many = absurd (many refl)
none_alone (one ∷ (two ∷ others)) many = refl

pub not_only : (d : Data) (entries : List (String Global × Value)) → Some (members_view entries) ≡ as_object d → (length entries ≡ 1 → ⊥) → only_member d ≡ None
not_only d entries e many = ap (option_and_then only_of) (sym e) ∙ none_alone entries many

alone : (entries : List (String Global × Value)) (name : String Global) (value : Value)
    → length entries ≡ 1 → slice_get entries 0 ≡ Some (name, value) → only_of (members_view entries) ≡ Some (string_bytes name, view value)
alone [] name value one first = cc
alone (entry ∷ []) name value one first =
    let same : entry ≡ (name, value) = cc in
    ap (λ (x : String Global × Value). Some (string_bytes x.0, view x.1)) same
alone (entry ∷ (other ∷ others)) name value one first = absurd (omega arith)

pub the_only : (d : Data) (entries : List (String Global × Value)) (name : String Global) (value : Value)
    → Some (members_view entries) ≡ as_object d → length entries ≡ 1 → slice_get entries 0 ≡ Some (name, value) → only_member d ≡ Some (string_bytes name, view value)
the_only d entries name value e one first = ap (option_and_then only_of) (sym e) ∙ alone entries name value one first
