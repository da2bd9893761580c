-- The size of workgroups in a text, on each axis, is that of the module in the run.
use Rattle.std.proofs.Common.{◌≡◌, ℕ, List, [], ◌∷◌, Option, Some, None, refl, sym, ap, ◌∙◌}
use Rattle.std.specs.Prelude.{flat_map, option_map, option_and_then, slice_index, unwrap_or}
use Rattle.std.specs.Option.{option_map_or, option_or}
use Rattle.spv_module.specs.Held.{global}
use Rattle.spv_module.specs.declared.inst.Inst.{Inst}
use Rattle.spv_types.specs.Tree.{word as word_value}
use Rattle.profile_rules.specs.declared.constant.ConstantKind.TheVariants as kinds
use Rattle.profile_rules.specs.Constants.{constant_kind, spec_id, given_to, word_given, value_by_kind}
use Rattle.profile_rules.specs.Entry.{size_by, size_part}
use Rattle.module_semantics.specs.Setting.{Setting}
use Rattle.fits_law.proofs.Steps.{named}
use Rattle.type_law.specs.Shaped.{HaveResults, HasConstants}
use Rattle.type_law.proofs.Constants.{constant_of}
use Rattle.global_law.specs.Sources.{chosen}
use Rattle.std.specs.List.{zip}
use Rattle.std.proofs.lemmas.Option.{same_Some}
use Rattle.profile_rules.specs.declared.given.Given.{Given}
use Rattle.profile_rules.specs.declared.size.SizePart.{SizePart}
use Rattle.profile_rules.specs.declared.size.SizePart.TheVariants.{Fixed, Spec}
use Rattle.traces.specs.Invocations.{Invocation}
use Rattle.glsl_ast.specs.declared.items.Size.{Size}
use Rattle.glsl_semantics.specs.Items.{size_on}
use Rattle.text_rules.specs.Constants.{overridden, size_now, sizes_of, sizes_by, axes}

-- what a part is in a run: its number, or the word that the invocation is told for its SpecId, else its default
abbrev pub part_value : Invocation → SizePart → ℕ
part_value inv (Fixed n) = n
part_value inv (Spec k default) = unwrap_or (inv.specialization k) default

-- a part of the module's size that a constant gives has the value of this constant in the run: a word, or a specialization constant's word
pub part_is : (s : Setting) (overrides : List (ℕ × Given)) → HasConstants s (chosen s overrides) → HaveResults s.of.globals → (n w : ℕ) (g : Inst) → global s.of.globals n ≡ Some g → constant_kind g.op ≡ kinds.SpecWord → s.constants n ≡ Some (word_value w) → part_value s.invocation (size_now overrides (size_part s.of n)) ≡ w
part_is s overrides have results n w g there kind has =
    let c = constant_of s (chosen s overrides) have results n (word_value w) has in
    let same : c.0 ≡ g = same_Some c.0 g (sym c.3 ∙ there) in
    let named_so : g.result ≡ n = named s.of.globals n g there in
    let made : unwrap_or (chosen s overrides n) (slice_index g.args 0) ≡ w
    = word_same (unwrap_or (chosen s overrides n) (slice_index g.args 0)) w (ap (λ m. Some (word_value (unwrap_or (chosen s overrides m) (slice_index g.args 0)))) (sym named_so)
    ∙ ap (value_by_kind c.1 (chosen s overrides g.result) c.2 g.args) (sym kind) ∙ ap (λ (x : Inst). value_by_kind c.1 (chosen s overrides x.result) c.2 x.args (constant_kind x.op)) (sym same) ∙ c.6) in
    ap (λ o. part_value s.invocation (size_now overrides (size_by (spec_id s.of.heads n) (option_map_or (λ (g : Inst). slice_index g.args 0) o 0)))) there ∙ by_spec (spec_id s.of.heads n) (slice_index g.args 0) ∙ made
  where
    word_same : (a b : ℕ) → Some (word_value a) ≡ Some (word_value b) → a ≡ b
    word_same a b e = cc

    by_given : (k d : ℕ) (o : Option Given) → part_value s.invocation (overridden (Spec k d) o) ≡ unwrap_or (option_or (option_map word_given o) (s.invocation.specialization k)) d
    by_given k d None = refl
    by_given k d (Some v) = refl

    by_spec : (o : Option ℕ) (d : ℕ) → part_value s.invocation (size_now overrides (size_by o d)) ≡ unwrap_or (option_and_then (λ k. option_or (option_map word_given (given_to overrides k)) (s.invocation.specialization k)) o) d
    by_spec None d = refl
    by_spec (Some k) d = by_given k d (given_to overrides k)

-- the rows of three parts
abbrev rows : SizePart → SizePart → SizePart → List Size
rows a b c = flat_map (λ (p : ℕ × SizePart). sizes_of p.0 p.1) (zip axes (a ∷ b ∷ c ∷ []))

first_size : (inv : Invocation) (a b c : SizePart) → size_on inv (rows a b c) 0 ≡ part_value inv a
first_size inv (Fixed l) (Fixed m) (Fixed n) = refl
first_size inv (Fixed l) (Fixed m) (Spec n n0) = refl
first_size inv (Fixed l) (Spec m m0) (Fixed n) = refl
first_size inv (Fixed l) (Spec m m0) (Spec n n0) = refl
first_size inv (Spec l l0) (Fixed m) (Fixed n) = refl
first_size inv (Spec l l0) (Fixed m) (Spec n n0) = refl
first_size inv (Spec l l0) (Spec m m0) (Fixed n) = refl
first_size inv (Spec l l0) (Spec m m0) (Spec n n0) = refl

second_size : (inv : Invocation) (a b c : SizePart) → size_on inv (rows a b c) 1 ≡ part_value inv b
second_size inv (Fixed l) (Fixed m) (Fixed n) = refl
second_size inv (Fixed l) (Fixed m) (Spec n n0) = refl
second_size inv (Fixed l) (Spec m m0) (Fixed n) = refl
second_size inv (Fixed l) (Spec m m0) (Spec n n0) = refl
second_size inv (Spec l l0) (Fixed m) (Fixed n) = refl
second_size inv (Spec l l0) (Fixed m) (Spec n n0) = refl
second_size inv (Spec l l0) (Spec m m0) (Fixed n) = refl
second_size inv (Spec l l0) (Spec m m0) (Spec n n0) = refl

third_size : (inv : Invocation) (a b c : SizePart) → size_on inv (rows a b c) 2 ≡ part_value inv c
third_size inv (Fixed l) (Fixed m) (Fixed n) = refl
third_size inv (Fixed l) (Fixed m) (Spec n n0) = refl
third_size inv (Fixed l) (Spec m m0) (Fixed n) = refl
third_size inv (Fixed l) (Spec m m0) (Spec n n0) = refl
third_size inv (Spec l l0) (Fixed m) (Fixed n) = refl
third_size inv (Spec l l0) (Fixed m) (Spec n n0) = refl
third_size inv (Spec l l0) (Spec m m0) (Fixed n) = refl
third_size inv (Spec l l0) (Spec m m0) (Spec n n0) = refl

-- the line of a text, by the overrides
pub sizes_are : (inv : Invocation) (overrides : List (ℕ × Given)) (a b c : SizePart) → (size_on inv (sizes_by overrides (a ∷ b ∷ c ∷ [])) 0 ≡ part_value inv (size_now overrides a)) × (size_on inv (sizes_by overrides (a ∷ b ∷ c ∷ [])) 1 ≡ part_value inv (size_now overrides b)) × (size_on inv (sizes_by overrides (a ∷ b ∷ c ∷ [])) 2 ≡ part_value inv (size_now overrides c))
sizes_are inv overrides a b c =
    (first_size inv (size_now overrides a) (size_now overrides b) (size_now overrides c), second_size inv (size_now overrides a) (size_now overrides b) (size_now overrides c), third_size inv (size_now overrides a) (size_now overrides b) (size_now overrides c))
