-- Private variables of a text begin with the values with which they begin in the module, and begin paths.
use Rattle.std.proofs.Common.{◌≡◌, ◌<◌, ◌+◌, ◌++◌, ◌==◌, ◌||◌, ◌&&◌, ℕ, suc, true, false, List, [], ◌∷◌, length, not, Option, Some, None, inl, inr, refl, sym, ap, ap₂, ◌∙◌, subst, if◌then◌else◌, arith}
use Rattle.std.specs.Prelude.{flat_map, is_some, nat_lt, option_and_then, slice_get, slice_index, unwrap_or}
use Rattle.std.specs.Option.{option_map_or}
use Rattle.std.specs.List.{list_any}
use Rattle.std.proofs.lemmas.Bool.Decides.{nat_tests}
use Rattle.std.proofs.lemmas.List.Concat.{flat_map-cons}
use Rattle.std.proofs.lemmas.Bool.{and_from, and_left as first_off, not-false, or_left, or_right as or_on_right}
use Rattle.std.proofs.lemmas.Option.{same_Some}
use Rattle.spv_ops.specs.Opcode.{is, number}
use Rattle.spv_ops.specs.Groups.{is_constant as is_constant_op}
use Rattle.spv_ops.specs.Operands.{is_id}
use Rattle.spv_ops.specs.declared.Op.{Op}
use Rattle.spv_ops.specs.declared.Op.TheVariants as code
use Rattle.spv_ops.specs.Enumerants.{class_number, decoration_number}
use Rattle.spv_ops.specs.declared.Decoration.TheVariants as decoration
use Rattle.spv_ops.specs.declared.StorageClass.TheVariants as storage
use Rattle.spv_module.specs.Held.{global as global_inst}
use Rattle.spv_module.specs.Lists.{id}
use Rattle.spv_module.specs.declared.inst.Inst.{Inst}
use Rattle.spv_types.specs.Tree.{Tree, ValueTree}
use Rattle.spv_types.specs.Types.{type_tree}
use Rattle.spv_types.specs.Leaves.{zero_of}
use Rattle.spv_decor.specs.Rows.{word, value_of}
use Rattle.spv_decor.specs.Decorations.{local_insts}
use Rattle.spv_index.specs.BlockStructs.{is_block, is_block_struct, is_some_block}
use Rattle.spv_index.specs.Pointers.{pointee}
use Rattle.layout_rules.specs.Blocks.{block_of, is_block_class, as_struct}
use Rattle.profile_rules.specs.declared.given.Given.{Given}
use Rattle.profile_rules.specs.Places.{is_defined_elsewhere}
use Rattle.profile_rules.specs.Variables.{is_of_other_type, is_other_value}
use Rattle.module_semantics.specs.Setting.{Setting, global_variable}
use Rattle.module_semantics.specs.State.{global as root}
use Rattle.module_semantics.specs.Memory.{variable_type}
use Rattle.module_semantics.specs.Accesses.{initial_private}
use Rattle.list_law.proofs.Lists.{second_at}
use Rattle.list_law.proofs.Tests.{and_none}
use Rattle.list_law.proofs.Numbers.{same_number}
use Rattle.plan_law.specs.InOrder.{IsAmong, AreRising}
use Rattle.plan_law.proofs.Order.{among_left as inst_left}
use Rattle.name_alloc.specs.declared.claims.Key.{Key}
use Rattle.name_alloc.specs.declared.claims.Key.TheVariants.{Id}
use Rattle.glsl_ast.specs.Tree as items
use Rattle.glsl_ast.specs.Tree.{Text, name, Decl}
use Rattle.glsl_ast.specs.declared.expressions.Literal.TheVariants.{Uint}
use Rattle.glsl_semantics.specs.Shapes.{typed}
use Rattle.glsl_semantics.specs.States.{State, found}
use Rattle.glsl_semantics.specs.Expressions.{Program, type_of, named}
use Rattle.glsl_semantics.specs.Items.{Declared, no_calls, known_if, known_value, global_value, with_items, declared_by}
use Rattle.text_rules.specs.Constants.{Source, sizes, reading, free_spec_id, constant_expr, group_size_text}
use Rattle.text_rules.specs.Printed as printed
use Rattle.text_rules.specs.Printed.{Reached, is_private, is_workgroup as is_shared, is_block_variable, is_operand_in, is_length_of, has_operand, needs_constant, is_named, is_needed, is_written_variable, is_declared_constant, is_written_struct, type_has_struct, written_types}
use Rattle.text_rules.specs.Declarations.{Names, type_at, pointee_at, zero_at, expr_at, initial, struct_decl, constant_decl, variable_decl, declaration, declarations}
use Rattle.text_items.specs.Globals.{is_input, built_in_text, global_by}
use Rattle.agree_law.specs.Agree.{Naming, variable_with}
use Rattle.global_law.specs.Parts.{StructNames, shape_in}
use Rattle.global_law.specs.Walks.{struct_names}
use Rattle.global_law.specs.Starts.{IsPrivate}
use Rattle.global_law.proofs.Path.Starts.{outside_is}
use Rattle.lowering_law.specs.Says.{Says}
use Rattle.fits_law.proofs.Steps.{named as named_so}
use Rattle.typed_law.proofs.Lists.{or_right, and_left, and_right, and_off, found_in}
use Rattle.typed_law.proofs.Rules.{initializer_right}
use Rattle.typed_law.proofs.Sized.{rising_low}
use Rattle.global_law.specs.Sources.{source_of, chosen}
use Rattle.global_law.proofs.Global.Blocks.{items_more, type_declared}
use Rattle.global_law.proofs.Global.Privates.{IsOtherVariable, AreOtherVariables, items_find, private_there, own_value, zero_begins, given_first, zero_first}
use Rattle.global_law.proofs.Global.Zeros.{HasZero, is_declared, zero_lengths}
use Rattle.global_law.proofs.Global.Shared.{no_other}
use Rattle.global_law.specs.Items.{key_text, AreAsked}
use Rattle.global_law.proofs.Constant.Valued.{IsValued, valued}
use Rattle.global_law.proofs.Constant.Needed.{operand_at, operand_earlier}
use Rattle.global_law.proofs.Constant.Constituents.{nothing}
use Rattle.global_law.proofs.Constant.Reading.{reads_says}
use Rattle.global_law.proofs.Constant.Standing.{N, HasNoVariable, Stands, own, constant_op, declared_by as declared_if, constant_hidden, size_hidden, other_variables, needed_kept, bytes_off, same_item, variable_is_item, any_among}
use Rattle.global_law.proofs.Constant.Constants.{IsFunction, AreFunctions, first, stands_before, zero_before}

pub variable_id : (o : Op) (args : List ℕ) (k : ℕ) → is o code.Variable ≡ true → is_id o args (suc k) ≡ true
unfolding number is_id
variable_id code.Variable args k on = grind (arith, nat_tests)
variable_id o args k on = cc

variable_no_struct : (o : Op) → is o code.Variable ≡ true → is o code.TypeStruct ≡ false
unfolding number
variable_no_struct code.Variable on = refl
variable_no_struct o on = cc

variable_no_constant : (o : Op) → is o code.Variable ≡ true → is_constant_op o ≡ false
unfolding number
variable_no_constant code.Variable on = refl
variable_no_constant o on = cc

function_finds : (i : Decl) (x : Text) → IsFunction i → IsOtherVariable x i
function_finds (Decl.struct w fs) x on = absurd on
function_finds (items.constant spec t w e) x on = absurd on
function_finds (items.shared t w) x on = absurd on
function_finds (items.global t w e) x on = absurd on
function_finds (items.block place q quals buffer w members y) x on = absurd on
function_finds (Decl.function result w params body) x on = tt

pub functions_find : (fs : List Decl) (x : Text) → AreFunctions fs → AreOtherVariables x fs
functions_find [] x are = tt
functions_find (i ∷ fs) x are = (function_finds i x are.0, functions_find fs x are.1)

both_variables : (x : Text) (xs ys : List Decl) → AreOtherVariables x xs → AreOtherVariables x ys → AreOtherVariables x (xs ++ ys)
both_variables x [] ys a b = b
both_variables x (i ∷ xs) ys a b = (a.0, both_variables x xs ys a.1 b)

-- what stands behind one in a rising list
pub behind : (before after : List Inst) (k : ℕ) (v : Inst) → AreRising k (before ++ v ∷ after) → (h : Inst) → IsAmong h after → v.at < h.at
behind [] after k v rise h there = let far = rising_low (v.at + 1) after h rise.1 there in omega (arith, far)
behind (b ∷ before) after k v rise h there = behind before after (b.at + 1) v rise.1 h there

pub among_behind : (before after : List Inst) (v h : Inst) → IsAmong h after → IsAmong h (before ++ v ∷ after)
among_behind [] after v h there = inr there
among_behind (b ∷ before) after v h there = inr (among_behind before after v h there)

pub among_here : (before after : List Inst) (v : Inst) → IsAmong v (before ++ v ∷ after)
among_here [] after v = inl refl
among_here (b ∷ before) after v = inr (among_here before after v)

module _ (s : Setting) (entry : Option (List ℕ)) (overrides : List (ℕ × Given)) (found_key : Key → Option Text) (r : Reached) (asked : AreAsked s entry overrides found_key r) where
  abbrev source : Source
  source = source_of s overrides

  abbrev key : Key → Text
  key = key_text found_key

  abbrev names : ℕ → Text
  names n = key (Id (id n))

  abbrev Gs : List Inst
  Gs = s.of.globals

  abbrev Y : StructNames
  Y = struct_names key

  abbrev Ns : Names
  Ns = N s entry overrides found_key r asked

  -- no later variable has the name
  variables_after : (v : Inst) → IsAmong v Gs → is_written_variable r v ≡ true → (after : List Inst) → ((h : Inst) → IsAmong h after → IsAmong h Gs) → ((h : Inst) → IsAmong h after → v.at < h.at) → AreOtherVariables (names v.result) (flat_map (declaration source r Ns) after)
  variables_after v there written [] all far = tt
  variables_after v there written (h ∷ hs) all far =
      subst (AreOtherVariables (names v.result)) (sym (flat_map-cons (declaration source r Ns) h hs))
      (both_variables (names v.result) (declaration source r Ns h) (flat_map (declaration source r Ns) hs)
      (other_variables s entry overrides found_key r asked (names v.result) h (λ own also. bytes_off (names h.result) (names v.result) (λ same.
      let one : h ≡ v = same_item s entry overrides found_key r asked h v (all h (inl refl)) there (variable_is_item s entry overrides found_key r asked h also) (variable_is_item s entry overrides found_key r asked v written) same in
      let at : h.at ≡ v.at = ap (λ (x : Inst). x.at) one in
      let less = far h (inl refl) in
      omega (arith, less, at))))
      (variables_after v there written hs (λ k k_in. all k (inr k_in)) (λ k k_in. far k (inr k_in))))

  module _ (before after : List Inst) (v : Inst) (whole : Gs ≡ before ++ v ∷ after) (private : is_private v ≡ true) (mentioned : is_operand_in r.functions v.result ≡ true) where
    there : IsAmong v Gs
    there = subst (IsAmong v) (sym whole) (among_here before after v)

    variable : is v.op code.Variable ≡ true
    variable = and_left (is v.op code.Variable) (printed.class v == class_number storage.Private) private

    class : printed.class v ≡ class_number storage.Private
    class = same_number (printed.class v) (class_number storage.Private) (and_right (is v.op code.Variable) (printed.class v == class_number storage.Private) private)

    written : is_written_variable r v ≡ true
    written = and_from (is_private v || (is_shared v || is_block_variable v)) (is_operand_in r.functions v.result) (or_left (is_private v) (is_shared v || is_block_variable v) private) mentioned

    abbrev D : Declared
    D = with_items (first s overrides) (flat_map (declaration source r Ns) before)

    stands : Stands s entry overrides found_key r asked v.at D
    stands = stands_before s entry overrides found_key r asked before after v whole

    declares_private : declaration source r Ns v ≡ items.global (type_at source Ns (pointee_at source v.ty)) (names v.result) (initial source Ns v) ∷ []
    declares_private =
        let no_struct : is_written_struct source r v ≡ false = first_off (is v.op code.TypeStruct) (not (is_block s.of.heads v.result) && list_any (type_has_struct Gs v.result) (written_types source r)) (variable_no_struct v.op variable) in
        let no_constant : is_declared_constant source r v ≡ false = first_off (is_constant_op v.op) (is_named (reading source v) && (is_some (free_spec_id source v.result) || is_needed source r v.result)) (variable_no_constant v.op variable) in
        let no_block : block_of Gs v ≡ None = no_other (is v.op code.Variable && is_block_class (slice_index v.args 0)) (option_and_then as_struct (option_and_then (global_inst Gs) (pointee Gs v.ty))) (ap (λ n. is v.op code.Variable && is_block_class n) class ∙ and_none (is v.op code.Variable)) in
        ap (λ b. if b then struct_decl source Ns v ∷ [] else (if is_declared_constant source r v then constant_decl source Ns v ∷ [] else (if is_written_variable r v then variable_decl source Ns v (block_of Gs v) else []))) no_struct
        ∙ ap (λ b. if b then constant_decl source Ns v ∷ [] else (if is_written_variable r v then variable_decl source Ns v (block_of Gs v) else [])) no_constant
        ∙ ap₂ (λ b o. if b then variable_decl source Ns v o else []) written no_block
        ∙ ap (λ b. (if b then items.global (type_at source Ns (pointee_at source v.ty)) (names v.result) (initial source Ns v) else items.shared (type_at source Ns (pointee_at source v.ty)) (names v.result)) ∷ []) private

    module _ (q : ℕ) (t : Tree) (points : pointee Gs v.ty ≡ Some q) (shape : type_tree Gs q ≡ Some t) where
      zero_is : HasZero D.program s source key t
      zero_is = zero_before s entry overrides found_key r asked before after v q t whole there variable written (no_block q points) (ap (λ n. n == class_number storage.Workgroup) class) points shape
        where
          no_block : (q : ℕ) → pointee Gs v.ty ≡ Some q → is_some_block s.of.heads Gs v ≡ false
          no_block q points = ap (λ n. option_map_or (is_block_struct s.of.heads n) (pointee Gs v.ty) false) class ∙ ap (λ o. option_map_or (is_block_struct s.of.heads (class_number storage.Private)) o false) points

      shape_at : type_tree Gs (pointee_at source v.ty) ≡ Some t
      shape_at = ap (λ o. type_tree Gs (unwrap_or o v.ty)) points ∙ shape

      abbrev Z : State
      Z = record { frames = []; globals = D.globals; answers = [] }

      seen : (x : Text) → HasNoVariable s entry overrides found_key r asked x → named D.program Z x ≡ D.program.things x
      seen x off = outside_is D.program Z x refl (stands.hidden x off)

      -- by a constant
      by_constant : (n : ℕ) (a : ValueTree) → slice_get v.args 1 ≡ Some n → s.constants n ≡ Some a → known_value D.program D.globals (shape_in s Y t) (initial source Ns v) ≡ Some (typed (shape_in s Y t) a)
      by_constant n a second has =
          ap (λ o. known_value D.program D.globals (shape_in s Y t) (option_map_or (expr_at source Ns) o (zero_at source Ns (pointee_at source v.ty)))) second
          ∙ ap (λ o. known_value D.program D.globals (shape_in s Y t) (option_map_or (constant_expr source names) o (items.literal (Uint 0)))) c.there
          ∙ ap (known_if (shape_in s Y t)) says ∙ own_value s overrides key (Ns.calculated) D.program t a zero_is
        where
          c : IsValued s (chosen s overrides) asked.have asked.right.results asked.right.rising n a
          c = valued s (chosen s overrides) asked.have asked.right.results asked.right.rising n a has

          h : Inst
          h = c.inst

          among : IsAmong h Gs
          among = found_in Gs n h c.there

          itself : h.result ≡ n
          itself = named_so Gs n h c.there

          place : (1 < length v.args) × (slice_index v.args 1 ≡ n)
          place = second_at v.args n second

          operand : has_operand v n ≡ true
          operand = subst (λ k. has_operand v k ≡ true) place.1 (operand_at (is_id v.op v.args) v.args 0 1 place.0 (variable_id v.op v.args 0 variable))

          less : h.at < v.at
          less = operand_earlier s.of entry asked.right v h n there operand c.there

          value_here : s.constants h.result ≡ Some a
          value_here = ap s.constants itself ∙ has

          constant : is_constant_op h.op ≡ true
          constant = constant_op s entry overrides found_key r asked h a among value_here

          needed : is_needed source r h.result ≡ true
          needed = subst (λ k. is_needed source r k ≡ true) (sym itself)
              (needed_kept source (needs_constant source r) Gs n (or_on_right (list_any (λ (k : ℕ). k == n) r.mentions) _ (or_on_right (list_any (is_length_of n) Gs) _
              (any_among (λ (g : Inst). is_private g && (is_written_variable r g && has_operand g n)) Gs v there (and_from (is_private v) (is_written_variable r v && has_operand v n) private (and_from (is_written_variable r v) (has_operand v n) written operand))))))

          -- P16
          same_type : h.ty ≡ q
          same_type =
              let off = or_right (not ((word v 0 == class_number storage.Function) || (word v 0 == class_number storage.Private))) (is_other_value s.of v (word v 1))
              (and_off (is v.op code.Variable && nat_lt 1 (length v.args)) (not ((word v 0 == class_number storage.Function) || (word v 0 == class_number storage.Private)) || is_other_value s.of v (word v 1)) (initializer_right s.of entry asked.right v (inst_left v Gs (local_insts s.of) there)) (and_from (is v.op code.Variable) (nat_lt 1 (length v.args)) variable (let inside = place.0 in above (length v.args) inside))) in
              let row : global_inst Gs (word v 1) ≡ Some h = ap (global_inst Gs) place.1 ∙ c.there in
              let other = or_right (not (is_constant_op h.op)) (is_of_other_type Gs v h) (ap (λ o. option_map_or (λ (g : Inst). not (is_constant_op g.op) || is_of_other_type Gs v g) o (is_defined_elsewhere s.of (word v 1))) (sym row) ∙ off) in
              same_number h.ty q (not-false (h.ty == q) (ap (λ o. option_map_or (λ (k : ℕ). not (h.ty == k)) o false) (sym points) ∙ other))
            where
              above : (n : ℕ) → 1 < n → nat_lt 1 n ≡ true
              above n less = grind (arith, nat_tests, less)

          own_shape : type_tree Gs h.ty ≡ Some t
          own_shape = ap (type_tree Gs) same_type ∙ shape

          says : Says D.program no_calls Z (constant_expr source names h) (typed (shape_in s Y t) a)
          says = reads_says s overrides key asked.have asked.right.results asked.right.rising asked.spec_ids asked.sizes D.program no_calls Z (seen group_size_text (size_hidden s entry overrides found_key r asked) ∙ stands.size) h t a among (own s entry overrides found_key r asked h among) value_here own_shape
              (λ reads.
              let declared = declared_if s entry overrides found_key r asked h constant reads needed in
              seen (names h.result) (constant_hidden s entry overrides found_key r asked h among declared) ∙ stands.constants h t a among less declared value_here own_shape)

      begins : (a : ValueTree) → global_variable s v.result ≡ Some v → initial_private s v.result ≡ Some a → known_value D.program D.globals (shape_in s Y t) (initial source Ns v) ≡ Some (typed (shape_in s Y t) a)
      begins a itself starts = by_second (slice_get v.args 1) refl
        where
          at : type_tree Gs (variable_type s v) ≡ Some t
          at = ap (λ o. type_tree Gs (unwrap_or o 0)) points ∙ shape

          by_second : (o : Option ℕ) → slice_get v.args 1 ≡ o → known_value D.program D.globals (shape_in s Y t) (initial source Ns v) ≡ Some (typed (shape_in s Y t) a)
          by_second None second =
              zero_begins s overrides key (Ns.calculated) D.program D.globals v t second shape_at zero_is
              ∙ ap (λ u. Some (typed (shape_in s Y t) u)) (same_Some (zero_of t) a (sym (zero_first s overrides key (Ns.calculated) v.result v t itself second at) ∙ starts))
          by_second (Some n) second = by_constant n a second (sym (given_first s overrides key (Ns.calculated) v.result n v itself second) ∙ starts)

      -- its expression gives it a value of its type
      pub private_valued : (a : ValueTree) → global_variable s v.result ≡ Some v → initial_private s v.result ≡ Some a → global_value D (type_of D.program (type_at source Ns (pointee_at source v.ty))) (initial source Ns v) ≡ Some (typed (shape_in s Y t) a)
      private_valued a itself starts = ap (λ o. global_value D o (initial source Ns v)) (type_declared s nothing overrides key (Ns.calculated) D.program (pointee_at source v.ty) t shape_at (zero_lengths D.program s source key t zero_is) (is_declared D.program s source key t zero_is)) ∙ begins a itself starts

      -- So it begins, behind all items, with the value that it has in the module.
      pub private_begins : (fs : List Decl) → AreFunctions fs → (a : ValueTree) → global_variable s v.result ≡ Some v → initial_private s v.result ≡ Some a
          → found (declared_by s.invocation (sizes source) (declarations source r Ns ++ fs)).globals (names v.result) ≡ Some (variable_with (shape_in s Y t) (initial_private s v.result))
      unfolding declared_by
      private_begins fs functions a itself starts =
          ap (λ (d : Declared). found d.globals (names v.result)) (items_more (declarations source r Ns) fs (first s overrides))
          ∙ items_find fs (with_items (first s overrides) (declarations source r Ns)) (names v.result) (functions_find fs (names v.result) functions)
          ∙ private_there s overrides key (Ns.calculated) nothing r (first s overrides) before after v t a whole declares_private shape_at zero_is (begins a itself starts)
          (variables_after v there written after (λ h h_in. subst (IsAmong h) (sym whole) (among_behind before after v h h_in)) (behind before after 0 v (subst (AreRising 0) whole asked.right.rising)))
          ∙ ap (λ o. Some (variable_with (shape_in s Y t) o)) (sym starts)

      -- A pointer to it is written by its name, and begins paths.
      pub private_is : (p : Program) (m : Naming) → global_variable s v.result ≡ Some v → m.is_private v.result ≡ true → m.name v.result ≡ names v.result → m.shape v.result ≡ shape_in s Y t
          → IsPrivate p m s source key (λ n. option_and_then (global_by source names) (global_inst Gs n)) v.result t (root v.result) []
      private_is p m itself listed named_as typed_as = record {
        variable = record { itself = no_expr; named = named_as; typed_as = typed_as };
        is = listed;
        root = refl;
        whole = refl;
        inst = v;
        there = itself;
        class = class;
      }
        where
          no_expr : option_and_then (global_by source names) (global_inst Gs v.result) ≡ None
          no_expr =
              ap (option_and_then (global_by source names)) (own s entry overrides found_key r asked v there)
              ∙ ap (λ b. if b then Some (constant_expr source names v) else (if is_input v then Some (name (built_in_text (unwrap_or (value_of s.of.heads v.result (decoration_number decoration.BuiltIn)) 0))) else None)) (variable_no_constant v.op variable)
              ∙ ap (λ b. if b then Some (name (built_in_text (unwrap_or (value_of s.of.heads v.result (decoration_number decoration.BuiltIn)) 0))) else None) (ap (λ n. is v.op code.Variable && (n == class_number storage.Input)) class ∙ and_none (is v.op code.Variable))
