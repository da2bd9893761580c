-- Where no global asks which instructions are live, what is written is the same whatever is told of these.
use Rattle.std.proofs.Common.{◌≡◌, ◌&&◌, ◌||◌, ℕ, not, Bool, true, false, List, [], ◌∷◌, ◌++◌, None, refl, ap, ◌∙◌}
use Rattle.std.specs.Prelude.{flat_map, is_some, if◌then◌else◌}
use Rattle.std.specs.List.{list_any, enumerate_from}
use Rattle.list_law.proofs.Tests.{or_left, or_right}
use Rattle.spv_ops.specs.Opcode.{is}
use Rattle.spv_ops.specs.declared.Op.TheVariants as code
use Rattle.spv_module.specs.declared.inst.Inst.{Inst}
use Rattle.spv_module.specs.declared.inst.Function.{Function}
use Rattle.spv_index.specs.BlockStructs.{is_block}
use Rattle.layout_rules.specs.Blocks.{block_of}
use Rattle.name_alloc.specs.declared.claims.Key.TheVariants.{Main}
use Rattle.text_rules.specs.Constants.{Source, is_constant, reading, free_spec_id}
use Rattle.text_rules.specs.Printed.{Reached, is_named, is_needed, is_written_variable, is_declared_constant, is_written_struct, type_has_struct, written_types}
use Rattle.text_rules.specs.Claims.{Claim, Plan, claim_id, claim_members, claim_variable, claim_global, claim_function, claim_flow, claims, is_written_block}
use Rattle.text_rules.specs.Declarations.{Names, struct_decl, constant_decl, variable_decl, declaration, declarations}
use Rattle.text_items.specs.Asked.{is_asked}

true_false : true ≡ false → ⊥
true_false e = cc

-- what stands behind a test that fails
behind : (a b x y : Bool) → (a && b) ≡ false → (a && (b && x)) ≡ (a && (b && y))
behind true true x y h = absurd (true_false h)
behind true false x y h = refl
behind false b x y h = refl

flats : {A B : Type 0} (f g : A → List B) (test : A → Bool) → ((a : A) → test a ≡ false → f a ≡ g a) → (xs : List A) → list_any test xs ≡ false → flat_map f xs ≡ flat_map g xs
flats f g test same [] h = refl
flats f g test same (x ∷ xs) h =
    ap (λ ys. ys ++ flat_map f xs) (same x (or_left (test x) (list_any test xs) h))
    ∙ ap (λ ys. g x ++ ys) (flats f g test same xs (or_right (test x) (list_any test xs) h))

module _ (s : Source) (fs : List Function) (types mentions types' mentions' : List ℕ) where
  abbrev some : Reached
  some = record { functions = fs; types = types; mentions = mentions }

  abbrev all : Reached
  all = record { functions = fs; types = types'; mentions = mentions' }

  constant_same : (g : Inst) → is_asked s g ≡ false → is_declared_constant s some g ≡ is_declared_constant s all g
  constant_same g h =
      behind (is_constant g) (is_named (reading s g)) (is_some (free_spec_id s g.result) || is_needed s some g.result) (is_some (free_spec_id s g.result) || is_needed s all g.result)
      (or_left (is_constant g && is_named (reading s g)) ((is g.op code.TypeStruct) && not (is_block s.of.heads g.result)) h)

  struct_same : (g : Inst) → is_asked s g ≡ false → is_written_struct s some g ≡ is_written_struct s all g
  struct_same g h =
      behind (is g.op code.TypeStruct) (not (is_block s.of.heads g.result)) (list_any (type_has_struct s.of.globals g.result) (written_types s some)) (list_any (type_has_struct s.of.globals g.result) (written_types s all))
      (or_right (is_constant g && is_named (reading s g)) ((is g.op code.TypeStruct) && not (is_block s.of.heads g.result)) h)

  declaration_same : (names : Names) (g : Inst) → is_asked s g ≡ false → declaration s some names g ≡ declaration s all names g
  declaration_same names g h =
      ap (λ (b : Bool). if b then struct_decl s names g ∷ [] else (if is_declared_constant s some g then constant_decl s names g ∷ [] else (if is_written_variable some g then variable_decl s names g (block_of s.of.globals g) else []))) (struct_same g h)
      ∙ ap (λ (b : Bool). if is_written_struct s all g then struct_decl s names g ∷ [] else (if b then constant_decl s names g ∷ [] else (if is_written_variable some g then variable_decl s names g (block_of s.of.globals g) else []))) (constant_same g h)

  claim_same : (g : Inst) → is_asked s g ≡ false → claim_global s some g ≡ claim_global s all g
  claim_same g h =
      ap (λ (b : Bool). if is g.op code.TypeStruct then ((if b then claim_id s g.result else []) ++ (if b || is_written_block s some g.result then claim_members s g else [])) else (if is_declared_constant s some g then claim_id s g.result else (if is_written_variable some g then claim_variable s g else []))) (struct_same g h)
      ∙ ap (λ (b : Bool). if is g.op code.TypeStruct then ((if is_written_struct s all g then claim_id s g.result else []) ++ (if is_written_struct s all g || is_written_block s some g.result then claim_members s g else [])) else (if b then claim_id s g.result else (if is_written_variable some g then claim_variable s g else []))) (constant_same g h)

  pub declarations_same : (names : Names) → list_any (is_asked s) s.of.globals ≡ false → declarations s some names ≡ declarations s all names
  declarations_same names h = flats (declaration s some names) (declaration s all names) (is_asked s) (declaration_same names) s.of.globals h

  pub claims_same : (plans : List Plan) → list_any (is_asked s) s.of.globals ≡ false → claims s some plans ≡ claims s all plans
  claims_same plans h =
      ap (λ (cs : List Claim). (Main, None) ∷ (cs ++ (flat_map (claim_function s) plans ++ flat_map (λ (p : Plan). flat_map (claim_flow p) (enumerate_from 0 p.function.blocks)) plans)))
      (flats (claim_global s some) (claim_global s all) (is_asked s) claim_same s.of.globals h)
