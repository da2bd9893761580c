-- The declarations at the top of a function: its variables, which have values, and results and kept indexes, which have none.
use Rattle.std.proofs.Common.{◌≡◌, ℕ, Bool, List, [], ◌∷◌, ◌++◌, map, filter, Option, Some, None, append-nil, refl, sym, ap, ◌∙◌}
use Rattle.std.specs.Prelude.{flat_map, is_none, is_some}
use Rattle.std.proofs.lemmas.List.{map-append}
use Rattle.std.proofs.lemmas.List.Elements.{filter-append}
use Rattle.std.proofs.lemmas.Grind.{flat_map-append}
use Rattle.spv_module.specs.Lists.{id}
use Rattle.spv_module.specs.declared.inst.Inst.{Inst}
use Rattle.spv_module.specs.declared.inst.Block.{Block}
use Rattle.name_alloc.specs.declared.claims.Key.TheVariants.{Id, Captured}
use Rattle.glsl_ast.specs.Tree.{Text, Expr, Stmt, declare, Stmts, stmt, stmts_in}
use Rattle.expr_forward.specs.Scope.{Scope}
use Rattle.expr_forward.specs.Statements.{captured_of}
use Rattle.function_text.specs.Functions.{is_hoisted_in, variable_text, hoisted_text, captured_text, captured_texts_of, variables_text, hoisted_texts, captured_texts, in_blocks, top_text}
use Rattle.profile_rules.specs.Places.{is_variable}
use Rattle.text_law.specs.Declarations.{declared, valued, unset, opened}
use Rattle.text_law.proofs.Variables.Texts.{declared_both}

-- of the instructions of blocks
module _ (so : Option Expr → Bool) (texts : List Inst → List Stmt) (names : List Inst → List Text) where
  pub in_blocks_declared : ((is : List Inst) → declared so (stmts_in (texts is)) ≡ names is) → ((a b : List Inst) → names (a ++ b) ≡ names a ++ names b) → names [] ≡ [] → (bs : List Block) → declared so (stmts_in (in_blocks texts bs)) ≡ names (flat_map (λ (b : Block). b.insts) bs)
  in_blocks_declared one both none [] = sym none
  in_blocks_declared one both none (b ∷ bs) =
      declared_both so (texts b.insts) (in_blocks texts bs)
      ∙ (ap (λ (l : List Text). l ++ declared so (stmts_in (in_blocks texts bs))) (one b.insts)
      ∙ (ap (λ (l : List Text). names b.insts ++ l) (in_blocks_declared one both none bs)
      ∙ sym (both b.insts (flat_map (λ (c : Block). c.insts) bs))))

-- those of a list that pass, by their names
filtered_both : (test : Inst → Bool) (name : Inst → Text) (a b : List Inst) → map name (filter test (a ++ b)) ≡ map name (filter test a) ++ map name (filter test b)
filtered_both test name a b = ap (map name) (filter-append test a b) ∙ map-append name (filter test a) (filter test b)

-- declarations alone
abbrev pub AllDeclare : List Stmt → Type 0
AllDeclare [] = Unit {0}
AllDeclare (declare t x e ∷ ss) = AllDeclare ss
AllDeclare (s ∷ ss) = ⊥

declare_both : (a b : List Stmt) → AllDeclare a → AllDeclare b → AllDeclare (a ++ b)
declare_both [] b x y = y
declare_both (declare t v e ∷ a) b x y = declare_both a b x y
declare_both (s ∷ a) b x y = absurd x

-- a body that begins with declarations
pub opened_first : (a b : List Stmt) → AllDeclare a → opened (stmts_in (a ++ b)) ≡ unset (stmts_in a) ++ opened (stmts_in b)
opened_first [] b x = refl
opened_first (declare t v None ∷ a) b x = ap (λ (l : List Text). v ∷ l) (opened_first a b x)
opened_first (declare t v (Some e) ∷ a) b x = opened_first a b x
opened_first (s ∷ a) b x = absurd x

pub opened_none : (ss : Stmts) → unset ss ≡ [] → opened ss ≡ []
opened_none (stmt (declare t v None) ss) none = let never : v ∷ unset ss ≡ [] = none in cc
opened_none (stmt (declare t v (Some e)) ss) none = opened_none ss none
opened_none ss none = refl

module _ (w : Scope) where
  abbrev pub named : Inst → Text
  named i = w.setting.key (Id (id i.result))

  abbrev pub index_named : Inst → ℕ × ℕ → Text
  index_named i n = w.setting.key (Captured (id i.result) n.0)

  abbrev pub kept_named : Inst → List Text
  kept_named i = map (index_named i) (captured_of w i)

  variables_valued : (is : List Inst) → valued (stmts_in (map (variable_text w) is)) ≡ map named is
  variables_valued [] = refl
  variables_valued (i ∷ is) = ap (λ (l : List Text). named i ∷ l) (variables_valued is)

  variables_unset : (is : List Inst) → unset (stmts_in (map (variable_text w) is)) ≡ []
  variables_unset [] = refl
  variables_unset (i ∷ is) = variables_unset is

  hoisted_valued : (is : List Inst) → valued (stmts_in (map (hoisted_text w) is)) ≡ []
  hoisted_valued [] = refl
  hoisted_valued (i ∷ is) = hoisted_valued is

  hoisted_unset : (is : List Inst) → unset (stmts_in (map (hoisted_text w) is)) ≡ map named is
  hoisted_unset [] = refl
  hoisted_unset (i ∷ is) = ap (λ (l : List Text). named i ∷ l) (hoisted_unset is)

  indexes_valued : (i : Inst) (ns : List (ℕ × ℕ)) → valued (stmts_in (map (captured_text w i) ns)) ≡ []
  indexes_valued i [] = refl
  indexes_valued i (n ∷ ns) = indexes_valued i ns

  indexes_unset : (i : Inst) (ns : List (ℕ × ℕ)) → unset (stmts_in (map (captured_text w i) ns)) ≡ map (index_named i) ns
  indexes_unset i [] = refl
  indexes_unset i (n ∷ ns) = ap (λ (l : List Text). index_named i n ∷ l) (indexes_unset i ns)

  captured_valued : (is : List Inst) → valued (stmts_in (captured_texts w is)) ≡ []
  captured_valued [] = refl
  captured_valued (i ∷ is) =
      declared_both is_some (captured_texts_of w i) (captured_texts w is)
      ∙ (ap (λ (l : List Text). l ++ valued (stmts_in (captured_texts w is))) (indexes_valued i (captured_of w i)) ∙ captured_valued is)

  captured_unset : (is : List Inst) → unset (stmts_in (captured_texts w is)) ≡ flat_map kept_named is
  captured_unset [] = refl
  captured_unset (i ∷ is) =
      declared_both is_none (captured_texts_of w i) (captured_texts w is)
      ∙ (ap (λ (l : List Text). l ++ unset (stmts_in (captured_texts w is))) (indexes_unset i (captured_of w i)) ∙ ap (λ (l : List Text). kept_named i ++ l) (captured_unset is))

  abbrev all_insts : List Block → List Inst
  all_insts bs = flat_map (λ (b : Block). b.insts) bs

  abbrev nothing : List Inst → List Text
  nothing is = []

  none_both : (a b : List Inst) → nothing (a ++ b) ≡ nothing a ++ nothing b
  none_both a b = refl

  -- What stands at the top.
  pub top_valued : (bs : List Block) → valued (stmts_in (top_text w bs)) ≡ map named (filter is_variable (all_insts bs))
  top_valued bs =
      declared_both is_some (in_blocks (variables_text w) bs) (in_blocks (hoisted_texts w) bs ++ in_blocks (captured_texts w) bs)
      ∙ (ap (λ (l : List Text). l ++ valued (stmts_in (in_blocks (hoisted_texts w) bs ++ in_blocks (captured_texts w) bs))) (in_blocks_declared is_some (variables_text w) (λ is. map named (filter is_variable is)) (λ is. variables_valued (filter is_variable is)) (filtered_both is_variable named) refl bs)
      ∙ (ap (λ (l : List Text). map named (filter is_variable (all_insts bs)) ++ l) rest ∙ append-nil (map named (filter is_variable (all_insts bs)))))
    where
      rest : valued (stmts_in (in_blocks (hoisted_texts w) bs ++ in_blocks (captured_texts w) bs)) ≡ []
      rest =
          declared_both is_some (in_blocks (hoisted_texts w) bs) (in_blocks (captured_texts w) bs)
          ∙ (ap (λ (l : List Text). l ++ valued (stmts_in (in_blocks (captured_texts w) bs))) (in_blocks_declared is_some (hoisted_texts w) nothing (λ is. hoisted_valued (filter (is_hoisted_in w) is)) none_both refl bs)
          ∙ in_blocks_declared is_some (captured_texts w) nothing captured_valued none_both refl bs)

  pub top_unset : (bs : List Block) → unset (stmts_in (top_text w bs)) ≡ map named (filter (is_hoisted_in w) (all_insts bs)) ++ flat_map kept_named (all_insts bs)
  top_unset bs =
      declared_both is_none (in_blocks (variables_text w) bs) (in_blocks (hoisted_texts w) bs ++ in_blocks (captured_texts w) bs)
      ∙ (ap (λ (l : List Text). l ++ unset (stmts_in (in_blocks (hoisted_texts w) bs ++ in_blocks (captured_texts w) bs))) (in_blocks_declared is_none (variables_text w) nothing (λ is. variables_unset (filter is_variable is)) none_both refl bs)
      ∙ (declared_both is_none (in_blocks (hoisted_texts w) bs) (in_blocks (captured_texts w) bs)
      ∙ (ap (λ (l : List Text). l ++ unset (stmts_in (in_blocks (captured_texts w) bs))) (in_blocks_declared is_none (hoisted_texts w) (λ is. map named (filter (is_hoisted_in w) is)) (λ is. hoisted_unset (filter (is_hoisted_in w) is)) (filtered_both (is_hoisted_in w) named) refl bs)
      ∙ ap (λ (l : List Text). map named (filter (is_hoisted_in w) (all_insts bs)) ++ l) (in_blocks_declared is_none (captured_texts w) (λ is. flat_map kept_named is) captured_unset (flat_map-append kept_named) refl bs))))

  mapped_declare : (f : Inst → Stmt) → ((i : Inst) → AllDeclare (f i ∷ [])) → (is : List Inst) → AllDeclare (map f is)
  mapped_declare f each [] = tt
  mapped_declare f each (i ∷ is) = declare_both (f i ∷ []) (map f is) (each i) (mapped_declare f each is)

  numbers_declare : (i : Inst) (ns : List (ℕ × ℕ)) → AllDeclare (map (captured_text w i) ns)
  numbers_declare i [] = tt
  numbers_declare i (n ∷ ns) = numbers_declare i ns

  captured_declare : (is : List Inst) → AllDeclare (captured_texts w is)
  captured_declare [] = tt
  captured_declare (i ∷ is) = declare_both (captured_texts_of w i) (captured_texts w is) (numbers_declare i (captured_of w i)) (captured_declare is)

  blocks_declare : (texts : List Inst → List Stmt) → ((is : List Inst) → AllDeclare (texts is)) → (bs : List Block) → AllDeclare (in_blocks texts bs)
  blocks_declare texts each [] = tt
  blocks_declare texts each (b ∷ bs) = declare_both (texts b.insts) (in_blocks texts bs) (each b.insts) (blocks_declare texts each bs)

  pub top_declares : (bs : List Block) → AllDeclare (top_text w bs)
  top_declares bs =
      declare_both (in_blocks (variables_text w) bs) (in_blocks (hoisted_texts w) bs ++ in_blocks (captured_texts w) bs)
      (blocks_declare (variables_text w) (λ is. mapped_declare (variable_text w) (λ i. tt) (filter is_variable is)) bs)
      (declare_both (in_blocks (hoisted_texts w) bs) (in_blocks (captured_texts w) bs)
      (blocks_declare (hoisted_texts w) (λ is. mapped_declare (hoisted_text w) (λ i. tt) (filter (is_hoisted_in w) is)) bs)
      (blocks_declare (captured_texts w) captured_declare bs))
