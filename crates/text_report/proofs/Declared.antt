-- The items that declare constants with a SpecId.
use Rattle.std.proofs.Common.{◌≡◌, ◌<◌, ◌+◌, ◌==◌, ℕ, true, false, List, length, take, get_or, Option, None, Some, is_some, cond, ap, sym, ◌∙◌}
use Rattle.std.specs.Option.{option_map_or, option_or}
use Rattle.std.specs.List.{position_from}
use Rattle.std.specs.Ordering.{nat_cmp, is_eq}
use Rattle.list_law.proofs.Lists.{position_more}
use Rattle.spv_decor.proofs.First.{position_fails}
use Rattle.spv_index.proofs.First.{or_entry, put_absent, keep_present}
use Rattle.glsl_ast.specs.declared.items.Decl.{Decl}
use Rattle.glsl_ast.specs.View.{decl_of}
use Rattle.text_report.specs.Constants.{own_id}
use Rattle.text_report.specs.Places.{is_of, ArePlaces}

module _ (ds : List Decl) (i : ℕ) (d : Decl) (inside : i < length ds) where
  -- one more item that declares no such constant
  pub places_other : (known : ℕ → Option ℕ) → own_id (decl_of (get_or ds i d)) ≡ None → ArePlaces (take i ds) known → ArePlaces (take (i + 1) ds) known
  places_other known none before id = before id ∙ sym (position_fails (is_of id) ds i d inside (ap (λ o. option_map_or (λ own. own == id) o false) none))

  module _ (own : ℕ) (is : own_id (decl_of (get_or ds i d)) ≡ Some own) where
    entry : (id : ℕ) → position_from (is_of id) 0 (take (i + 1) ds) ≡ or_entry (position_from (is_of id) 0 (take i ds)) own i id
    entry id = position_more (is_of id) ds i d inside ∙ ap (λ (o : Option ℕ). option_or (position_from (is_of id) 0 (take i ds)) (cond (option_map_or (λ n. n == id) o false) (Some i) None)) is

    -- one more that is the first with its SpecId
    pub places_new : (old new : ℕ → Option ℕ) → is_some (old own) ≡ false → ((id : ℕ) → new id ≡ cond (is_eq (nat_cmp own id)) (Some i) (old id)) → ArePlaces (take i ds) old → ArePlaces (take (i + 1) ds) new
    places_new old new absent now before id = put_absent old new own i absent now id ∙ ap (λ o. or_entry o own i id) (before id) ∙ sym (entry id)

    -- one more that is not
    pub places_old : (old : ℕ → Option ℕ) → is_some (old own) ≡ true → ArePlaces (take i ds) old → ArePlaces (take (i + 1) ds) old
    places_old old present before id = keep_present old own i present id ∙ ap (λ o. or_entry o own i id) (before id) ∙ sym (entry id)
