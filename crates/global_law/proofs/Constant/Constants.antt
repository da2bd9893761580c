-- What a function's text reads of constants says what the module has; and what stands in the text for the module's variables, by the order of items.
use Rattle.std.proofs.Common.{◌≡◌, ◌⊎◌, ◌<◌, ◌≤◌, ◌+◌, ◌==◌, ◌++◌, ℕ, true, false, List, [], ◌∷◌, Option, Some, None, inl, inr, refl, sym, ap, ◌∙◌, subst, if◌then◌else◌, arith, append-nil}
use Rattle.std.specs.Prelude.{unwrap_or, flat_map, option_and_then}
use Rattle.std.specs.List.{list_any}
use Rattle.std.proofs.lemmas.Bool.{or_left, or_right}
use Rattle.spv_ops.specs.Opcode.{is}
use Rattle.spv_ops.specs.Groups.{is_constant as is_constant_op}
use Rattle.spv_ops.specs.declared.Op.TheVariants as code
use Rattle.spv_module.specs.Held.{global as global_inst}
use Rattle.spv_module.specs.Lists.{id}
use Rattle.spv_module.specs.declared.inst.Inst.{Inst}
use Rattle.spv_types.specs.Tree as plain
use Rattle.spv_types.specs.Tree.{Tree, Trees, ValueTree}
use Rattle.spv_types.specs.Types.{all_trees, tree_before, type_tree}
use Rattle.spv_decor.specs.Decorations.{local_insts}
use Rattle.spv_decor.specs.Rows.{value_of}
use Rattle.spv_ops.specs.Enumerants.{decoration_number}
use Rattle.spv_ops.specs.declared.Decoration.TheVariants as decoration
use Rattle.spv_index.specs.BlockStructs.{is_some_block}
use Rattle.spv_index.specs.Pointers.{pointee}
use Rattle.profile_rules.specs.TypeForm.{is_workgroup}
use Rattle.profile_rules.specs.declared.given.Given.{Given}
use Rattle.module_semantics.specs.Setting.{Setting}
use Rattle.name_alloc.specs.declared.claims.Key.{Key}
use Rattle.name_alloc.specs.declared.claims.Key.TheVariants.{Id}
use Rattle.glsl_ast.specs.Tree as items
use Rattle.glsl_ast.specs.Tree.{Text, name, Decl}
use Rattle.traces.specs.Outcomes.{Result, got}
use Rattle.glsl_semantics.specs.Shapes.{Typed, typed}
use Rattle.glsl_semantics.specs.States.{State, has_in, found}
use Rattle.glsl_semantics.specs.Expressions.{Program, Argument, named, evaluate}
use Rattle.glsl_semantics.specs.Items.{Declared, first_program, with_items, declared_by}
use Rattle.text_rules.specs.declared.readings.Reading.TheVariants.{Named}
use Rattle.text_rules.specs.Constants.{Source, sizes, reading, constant_expr, group_size_text}
use Rattle.text_rules.specs.Printed.{Reached, have_struct, needs_constant, is_needed, is_written_variable, is_declared_constant}
use Rattle.text_rules.specs.Declarations.{Names, declaration, declarations}
use Rattle.text_items.specs.Globals.{is_input, built_in_text, global_by}
use Rattle.list_law.proofs.Numbers.{none_below}
use Rattle.plan_law.specs.InOrder.{IsAmong, AreRising}
use Rattle.plan_law.proofs.Order.{among_left as inst_left}
use Rattle.agree_law.specs.Agree.{Naming}
use Rattle.global_law.specs.Parts.{StructNames, shape_in}
use Rattle.global_law.specs.Walks.{struct_names}
use Rattle.global_law.proofs.Path.Starts.{outside_is}
use Rattle.typed_law.proofs.Lists.{found_in}
use Rattle.typed_law.proofs.Sized.{rising_low}
use Rattle.typed_law.proofs.Used.{pointee_sized}
use Rattle.fits_law.proofs.Steps.{named as named_so}
use Rattle.global_law.specs.Sources.{source_of}
use Rattle.global_law.specs.Names.{IsDeclared}
use Rattle.global_law.proofs.Global.BuiltIns.{IsOtherName, AreOtherNames, items_keep}
use Rattle.global_law.proofs.Global.Blocks.{AreDeclared, items_more}
use Rattle.global_law.proofs.Global.Zeros.{HasZero}
use Rattle.global_law.specs.Within.{IsNoBlock}
use Rattle.global_law.specs.Items.{key_text, AreAsked}
use Rattle.global_law.proofs.Constant.Within.{all_wider, members_unblocked, pointee_before, pointee_within}
use Rattle.global_law.proofs.Constant.Constituents.{nothing}
use Rattle.global_law.proofs.Constant.Reading.{reads_says}
use Rattle.global_law.proofs.Constant.Written.{pointed_type, held_by}
use Rattle.global_law.proofs.Constant.Standing.{N, Stands, StandsAt, stands_at, own, constant_op, declared_by as declared_if, needed_kept, all_declared, declared_stands, zero_stands, later}

-- the functions of a text, behind its other items
abbrev pub IsFunction : Decl → Type 0
IsFunction (Decl.function result w params body) = Unit {0}
IsFunction _ = ⊥

abbrev pub AreFunctions : List Decl → Type 0
AreFunctions [] = Unit {0}
AreFunctions (i ∷ is) = IsFunction i × AreFunctions is

function_keeps : (i : Decl) (x : Text) → IsFunction i → IsOtherName x i
function_keeps (Decl.struct w fs) x on = absurd on
function_keeps (items.constant spec t w e) x on = absurd on
function_keeps (items.shared t w) x on = absurd on
function_keeps (items.global t w e) x on = absurd on
function_keeps (items.block place q quals buffer w members y) x on = absurd on
function_keeps (Decl.function result w params body) x on = tt

pub functions_keep : (fs : List Decl) (x : Text) → AreFunctions fs → AreOtherNames x fs
functions_keep [] x are = tt
functions_keep (i ∷ fs) x are = (function_keeps i x are.0, functions_keep fs x are.1)

-- before any item
abbrev pub first : Setting → List (ℕ × Given) → Declared
first s overrides = record { program = first_program s.invocation (sizes (source_of s overrides)); shared_variables = 0; globals = []; is_stuck = false }

module _ (s : Setting) (entry : Option (List ℕ)) (overrides : List (ℕ × Given)) (found_key : Key → Option Text) (r : Reached) (asked : AreAsked s entry overrides found_key r) where
  abbrev source : Source
  source = source_of s overrides

  abbrev key : Key → Text
  key = key_text found_key

  abbrev names : ℕ → Text
  names n = key (Id (id n))

  abbrev Gs : List Inst
  Gs = s.of.globals

  abbrev Y : StructNames
  Y = struct_names key

  abbrev Ns : Names
  Ns = N s entry overrides found_key r asked

  pub first_stands : Stands s entry overrides found_key r asked 0 (first s overrides)
  first_stands = record {
    invocation = refl;
    functions = λ w. refl;
    size = refl;
    hidden = λ x off. refl;
    structs = λ h ts there less on all. absurd (none_below _ less);
    constants = λ h t v there less on has shape. absurd (none_below _ less);
  }

  -- before a global stands what the items before it declare
  pub stands_before : (before after : List Inst) (v : Inst) → Gs ≡ before ++ v ∷ after → Stands s entry overrides found_key r asked v.at (with_items (first s overrides) (flat_map (declaration source r Ns) before))
  stands_before before after v whole =
      let w = stands_at s entry overrides found_key r asked before (v ∷ after) (first s overrides) whole first_stands in
      later s entry overrides found_key r asked w.word_at v.at (with_items (first s overrides) (flat_map (declaration source r Ns) before)) (λ h h_in less. below w.word_at w.rising h less (w.rest h h_in)) w.stands
    where
      below : (k : ℕ) → AreRising k (v ∷ after) → (h : Inst) → h.at < v.at → (h.at < k) ⊎ IsAmong h (v ∷ after) → h.at < k
      below k rise h less (inl low) = low
      below k rise h less (inr (inl same)) = let at : v.at ≡ h.at = ap (λ (x : Inst). x.at) same in absurd (omega (arith, less, at))
      below k rise h less (inr (inr more)) = let far = rising_low (v.at + 1) after h rise.1 more in absurd (omega (arith, less, far))

  -- So the types of the members of a block are declared before it, and so is what a variable of a workgroup or a Private variable points to.
  pub block_declared : (before after : List Inst) (v g : Inst) (q : ℕ) (ts : Trees) → Gs ≡ before ++ v ∷ after → IsAmong v Gs → is v.op code.Variable ≡ true → is_written_variable r v ≡ true → pointee Gs v.ty ≡ Some q → global_inst Gs q ≡ Some g → is g.op code.TypeStruct ≡ true
      → all_trees (tree_before Gs g.at) g.args ≡ Some ts → type_tree Gs q ≡ Some (plain.struct q ts) → AreDeclared s nothing overrides key (Ns.calculated) (with_items (first s overrides) (flat_map (declaration source r Ns) before)).program ts
  block_declared before after v g q ts whole there variable written points row opcode all shape =
      let less = pointee_before s.of entry asked.right v q g there variable points row in
      let le : g.at ≤ v.at = omega (arith, less) in
      all_declared s entry overrides found_key r asked v.at (with_items (first s overrides) (flat_map (declaration source r Ns) before)) (stands_before before after v whole) ts
      (all_wider (IsNoBlock s.of) s.of g.at v.at le ts (members_unblocked s.of entry asked.right g ts (found_in Gs q g row) opcode all))
      (λ j has. held_by s entry asked.right overrides r v j there (or_left (is_written_variable r v) (is_declared_constant source r v) written) (pointed_type s entry asked.right overrides r v.ty q j (plain.struct q ts) points shape (or_right (q == j) (have_struct j ts) has)))

  pub type_declared_before : (before after : List Inst) (v : Inst) (q : ℕ) (t : Tree) → Gs ≡ before ++ v ∷ after → IsAmong v Gs → is v.op code.Variable ≡ true → is_written_variable r v ≡ true → is_some_block s.of.heads Gs v ≡ false → pointee Gs v.ty ≡ Some q → type_tree Gs q ≡ Some t
      → IsDeclared (with_items (first s overrides) (flat_map (declaration source r Ns) before)).program s source key t
  type_declared_before before after v q t whole there variable written off points shape =
      declared_stands s entry overrides found_key r asked v.at (with_items (first s overrides) (flat_map (declaration source r Ns) before)) (stands_before before after v whole) t (pointee_within s.of entry asked.right v q t there variable off points shape)
      (λ j has. held_by s entry asked.right overrides r v j there (or_left (is_written_variable r v) (is_declared_constant source r v) written) (pointed_type s entry asked.right overrides r v.ty q j t points shape has))

  pub zero_before : (before after : List Inst) (v : Inst) (q : ℕ) (t : Tree) → Gs ≡ before ++ v ∷ after → IsAmong v Gs → is v.op code.Variable ≡ true → is_written_variable r v ≡ true → is_some_block s.of.heads Gs v ≡ false → is_workgroup v ≡ false → pointee Gs v.ty ≡ Some q → type_tree Gs q ≡ Some t
      → HasZero (with_items (first s overrides) (flat_map (declaration source r Ns) before)).program s source key t
  zero_before before after v q t whole there variable written off own_memory points shape =
      zero_stands s entry overrides found_key r asked v.at (with_items (first s overrides) (flat_map (declaration source r Ns) before)) (stands_before before after v whole) t (pointee_within s.of entry asked.right v q t there variable off points shape)
      (pointee_sized s.of entry asked.right v q (inst_left v Gs (local_insts s.of) there) variable own_memory off points t shape)
      (λ j has. held_by s entry asked.right overrides r v j there (or_left (is_written_variable r v) (is_declared_constant source r v) written) (pointed_type s entry asked.right overrides r v.ty q j t points shape has))

  -- The text: its items, and the functions behind them.
  module _ (fs : List Decl) (functions : AreFunctions fs) where
    abbrev pub P : Program
    P = (declared_by s.invocation (sizes source) (declarations source r Ns ++ fs)).program

    pub things_same : (x : Text) → P.things x ≡ (with_items (first s overrides) (declarations source r Ns)).program.things x
    unfolding declared_by
    things_same x = ap (λ (d : Declared). d.program.things x) (items_more (declarations source r Ns) fs (first s overrides)) ∙ items_keep fs (with_items (first s overrides) (declarations source r Ns)) x (functions_keep fs x functions)

    -- behind all items
    pub last : StandsAt s entry overrides found_key r asked [] (with_items (first s overrides) (declarations source r Ns))
    last = stands_at s entry overrides found_key r asked Gs [] (first s overrides) (sym (append-nil Gs)) first_stands

    -- what the text reads of a constant, where its name is that of nothing of the function
    pub record IsReadHere (m : Naming) (n : ℕ) : Type 0 where
      pub inst : Inst
      pub there : global_inst Gs n ≡ Some inst
      pub shape : Tree
      pub typed_as : type_tree Gs inst.ty ≡ Some shape
      pub named_as : m.shape n ≡ shape_in s Y shape
      pub needed : reading source inst ≡ Named → is_needed source r n ≡ true
      pub outside : reading source inst ≡ Named → m.is_outside (names n) ≡ true
      pub size : m.is_outside group_size_text ≡ true

    -- a constant that a live instruction mentions is needed
    pub mentioned_needed : (n : ℕ) → list_any (λ (k : ℕ). k == n) r.mentions ≡ true → is_needed source r n ≡ true
    mentioned_needed n on = needed_kept source (needs_constant source r) Gs n (or_left (list_any (λ (k : ℕ). k == n) r.mentions) _ on)

    -- In each state in which nothing hides its name, the expression of a constant says the value that the constant has in the run.
    pub constants_say : (calls : Text → List Argument → State → Result (Option Typed × State)) (m : Naming) (n : ℕ) (v : ValueTree) (z : State) → ((x : Text) → m.is_outside x ≡ true → (has_in z.frames x ≡ false) × (found z.globals x ≡ None)) → s.constants n ≡ Some v → (w : IsReadHere m n)
        → (option_and_then (global_by source names) (global_inst Gs n) ≡ Some (constant_expr source names w.inst)) × (evaluate P calls (constant_expr source names w.inst) z ≡ got [] (typed (m.shape n) v, z))
    constants_say calls m n v z clear has w = (
      ap (option_and_then (global_by source names)) w.there ∙ ap (λ b. if b then Some (constant_expr source names w.inst) else (if is_input w.inst then Some (name (built_in_text (unwrap_or (value_of s.of.heads w.inst.result (decoration_number decoration.BuiltIn)) 0))) else None)) constant,
      subst (λ u. evaluate P calls (constant_expr source names w.inst) z ≡ got [] (typed u v, z)) (sym w.named_as)
          (reads_says s overrides key asked.have asked.right.results asked.right.rising asked.spec_ids asked.sizes P calls z (seen group_size_text w.size ∙ things_same group_size_text ∙ stands.size) w.inst w.shape v among (own s entry overrides found_key r asked w.inst among) own_value w.typed_as
          (λ reads. seen (names w.inst.result) (subst (λ k. m.is_outside (names k) ≡ true) (sym itself) (w.outside reads)) ∙ things_same (names w.inst.result) ∙ stands.constants w.inst w.shape v among (lower w.inst among) (declared_if s entry overrides found_key r asked w.inst constant reads (subst (λ k. is_needed source r k ≡ true) (sym itself) (w.needed reads))) own_value w.typed_as)),
    )
      where
        among : IsAmong w.inst Gs
        among = found_in Gs n w.inst w.there

        itself : w.inst.result ≡ n
        itself = named_so Gs n w.inst w.there

        own_value : s.constants w.inst.result ≡ Some v
        own_value = ap s.constants itself ∙ has

        constant : is_constant_op w.inst.op ≡ true
        constant = constant_op s entry overrides found_key r asked w.inst v among own_value

        stands : Stands s entry overrides found_key r asked last.word_at (with_items (first s overrides) (declarations source r Ns))
        stands = last.stands

        lower : (h : Inst) → IsAmong h Gs → h.at < last.word_at
        lower h h_in = elim (last.rest h h_in) [ inl low ↦ low | inr none ↦ absurd none ]

        seen : (x : Text) → m.is_outside x ≡ true → named P z x ≡ P.things x
        seen x out = let o = clear x out in outside_is P z x o.0 o.1
