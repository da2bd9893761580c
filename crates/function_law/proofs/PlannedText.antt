-- The text of a planned function is its top, declaration by declaration, and the text of its tree.
use Rattle.std.proofs.Common.{◌≡◌, ◌++◌, ℕ, false, List, [], ◌∷◌, map, filter, flat_map, Some, None, refl, sym, ap, ◌∙◌}
use Rattle.spv_module.specs.Lists.{id}
use Rattle.spv_module.specs.declared.inst.Inst.{Inst}
use Rattle.spv_module.specs.declared.inst.Block.{Block}
use Rattle.name_alloc.specs.declared.claims.Key.TheVariants.{Id, Captured}
use Rattle.module_semantics.specs.Setting.{Setting}
use Rattle.module_semantics.specs.Accesses.{initial_in}
use Rattle.text_rules.specs.Declarations.{initial, pointee_at, type_at}
use Rattle.expr_forward.specs.Scope.{Scope, type_of}
use Rattle.expr_forward.specs.Statements.{captured_of}
use Rattle.control_text.specs.Statements.{region_text}
use Rattle.function_text.specs.Functions.{FunctionPlan, written, blocks_of, variable_text, is_hoisted_in, hoisted_text, captured_text, in_blocks, body_text}
use Rattle.function_text.specs.Functions as real
use Rattle.list_law.proofs.Lists.{map_joined, map_twice}
use Rattle.agree_law.specs.Agree.{Naming}
use Rattle.profile_rules.specs.Places.{is_variable}
use Rattle.function_law.specs.Tops.{Top, top_text}

map_flat : {A B C : Type 0} (f : B → C) (g : A → List B) (xs : List A) → map f (flat_map g xs) ≡ flat_map (λ x. map f (g x)) xs
map_flat f g [] = refl
map_flat f g (x ∷ xs) = map_joined f (g x) (flat_map g xs) ∙ ap (λ l. map f (g x) ++ l) (map_flat f g xs)

flat_same : {A B : Type 0} (f g : A → List B) (xs : List A) → ((x : A) → f x ≡ g x) → flat_map f xs ≡ flat_map g xs
flat_same f g [] same = refl
flat_same f g (x ∷ xs) same = ap (λ l. l ++ flat_map f xs) (same x) ∙ ap (λ l. g x ++ l) (flat_same f g xs same)

module _ (w : Scope) (m : Naming) (s : Setting) where
  -- the declarations of a variable, of a value at the top, and of a kept index
  abbrev pub variable_top : Inst → Top
  variable_top i = record { type = type_at w.setting.source w.names (pointee_at w.setting.source i.ty); name = w.setting.key (Id (id i.result)); shape = m.shape i.result; first = Some (initial w.setting.source w.names i); value = initial_in s w.setting.function i.result }

  abbrev pub hoisted_top : Inst → Top
  hoisted_top i = record { type = type_at w.setting.source w.names i.ty; name = w.setting.key (Id (id i.result)); shape = m.shape i.result; first = None; value = None }

  abbrev pub index_top : Inst → ℕ × ℕ → Top
  index_top i n = record { type = type_at w.setting.source w.names (type_of w n.1); name = w.setting.key (Captured (id i.result) n.0); shape = m.index_shape i.result n.0; first = None; value = None }

  abbrev pub variable_tops : Block → List Top
  variable_tops b = map variable_top (filter is_variable b.insts)

  abbrev pub hoisted_tops : Block → List Top
  hoisted_tops b = map hoisted_top (filter (is_hoisted_in w) b.insts)

  abbrev pub index_tops : Block → List Top
  index_tops b = flat_map (λ i. map (index_top i) (captured_of w i)) b.insts

  abbrev pub tops_of : List Block → List Top
  tops_of bs = flat_map variable_tops bs ++ (flat_map hoisted_tops bs ++ flat_map index_tops bs)

  variables_are : (b : Block) → map top_text (variable_tops b) ≡ map (variable_text w) (filter is_variable b.insts)
  variables_are b = map_twice top_text variable_top (filter is_variable b.insts)

  hoisted_are : (b : Block) → map top_text (hoisted_tops b) ≡ map (hoisted_text w) (filter (is_hoisted_in w) b.insts)
  hoisted_are b = map_twice top_text hoisted_top (filter (is_hoisted_in w) b.insts)

  indexes_are : (b : Block) → map top_text (index_tops b) ≡ flat_map (λ i. map (captured_text w i) (captured_of w i)) b.insts
  indexes_are b = map_flat top_text (λ i. map (index_top i) (captured_of w i)) b.insts ∙ flat_same _ _ b.insts (λ i. map_twice top_text (index_top i) (captured_of w i))

  -- what is written at the top of a function
  pub tops_are : (bs : List Block) → map top_text (tops_of bs) ≡ real.top_text w bs
  tops_are bs =
      map_joined top_text (flat_map variable_tops bs) (flat_map hoisted_tops bs ++ flat_map index_tops bs)
      ∙ (ap (λ l. l ++ map top_text (flat_map hoisted_tops bs ++ flat_map index_tops bs)) (map_flat top_text variable_tops bs ∙ flat_same _ _ bs variables_are)
      ∙ ap (λ l. in_blocks (real.variables_text w) bs ++ l) (map_joined top_text (flat_map hoisted_tops bs) (flat_map index_tops bs)
      ∙ (ap (λ l. l ++ map top_text (flat_map index_tops bs)) (map_flat top_text hoisted_tops bs ∙ flat_same _ _ bs hoisted_are)
      ∙ ap (λ l. in_blocks (real.hoisted_texts w) bs ++ l) (map_flat top_text index_tops bs ∙ flat_same _ _ bs indexes_are))))

-- so the statements of a planned function are those of its top and of its tree
pub body_is : (p : FunctionPlan) (m : Naming) (s : Setting) → body_text p ≡ map top_text (tops_of p.scope m s (written p).blocks) ++ region_text (blocks_of p) (record { in_loop = None; continues = false; in_switch = false }) p.region
body_is p m s = ap (λ l. l ++ region_text (blocks_of p) (record { in_loop = None; continues = false; in_switch = false }) p.region) (sym (tops_are p.scope m s (written p).blocks))
