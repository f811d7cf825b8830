use Rattle.std.proofs.Common.{◌≡◌, ◌+◌, ◌<◌, List, ℕ, Bool, Option, None, Some, take, length, get_or, sym, ◌∙◌, ap, arith}
use Rattle.std.specs.Prelude.{◌||◌, option_map}
use Rattle.std.specs.List.{list_any}
use Rattle.std.proofs.lemmas.List.Folds.{list_any_more}
use Rattle.cas_record.specs.Histories.Chain.{is_key}
use Rattle.cas_record.specs.declared.operator.Probe.{Probe as Answered}
use Rattle.cas_model.specs.Council.{MemberPlace}
use Rattle.cas_model.specs.Eras.Listings.{Page, page_of, keys_of, is_listed}
use Rattle.cas_world_listing.specs.Keys.{Adds}
use Rattle.cas_world_listing.specs.Page.{page_view}
use Rattle.cas_world_listing.proofs.KeyLemmas.{none_added, added_both}
use Rattle.cas_world_listing.proofs.places.Places.add_pages.Goals as goal
use Rattle.cas_world_listing.proofs.places.Places.add_pages.Goals.{in-Some+in_ok-add_keys, in_default}

-- whether the key is on the page of the member
abbrev on_page : List Answered → MemberPlace → List ℕ → Bool
on_page told one key = list_any (is_key key) (keys_of (page_of told one.member one.place))

-- one more page is added
one_page : (told : List Answered) (places : List MemberPlace) (at : ℕ) (one : MemberPlace) (page : Option Page) (old middle new : List (List ℕ)) → at < length places → one ≡ get_or places at one → page ≡ page_of told one.member one.place
    → Adds (is_listed told (take at places)) old middle → Adds (λ key. list_any (is_key key) (keys_of page)) middle new → Adds (is_listed told (take (at + 1) places)) old new
one_page told places at one page old middle new within is paged was adds =
    added_both (is_listed told (take at places)) (λ key. list_any (is_key key) (keys_of page)) (is_listed told (take (at + 1) places)) old middle new was adds
    (λ key.
    ap (λ (p : Option Page). is_listed told (take at places) key || list_any (is_key key) (keys_of p)) paged
    ∙ ap (λ (m : MemberPlace). is_listed told (take at places) key || on_page told m key) is
    ∙ sym (list_any_more (λ m. on_page told m key) places at one within))

pub loop-place-preserved : goal.loop-place-preserved
loop-place-preserved c =
    let places = c.deref-place-items.result.now in
    let at = c.loop-place.place-index in
    let one = c.place-item.result in
    let old = c.args.keys.now.items in
    let middle = c.loop-place.keys.items in
    elim c.match-page.branch [
      | in-Some+in_ok-add_keys w ↦ rw w.keys-is (one_page c.args.told.now places at one (Some (page_view w.in-Some.page)) old middle w.add_keys.new.keys.items (omega arith) c.place-item.is (ap (option_map page_view) (sym w.in-Some.is) ∙ c.page.ensures.page) c.loop-place.invariant (w.in_ok-add_keys.ensures {u = tt}))
      | in_default w ↦ rw w.keys-is (one_page c.args.told.now places at one None old middle middle (omega arith) c.place-item.is (ap (option_map page_view) (sym w.in_default.is) ∙ c.page.ensures.page) c.loop-place.invariant (none_added middle c.loop-place.invariant.rises))
    ]
