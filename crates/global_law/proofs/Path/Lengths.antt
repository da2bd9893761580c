-- The length of a runtime array, as it is written, is what the module has.
use Rattle.std.proofs.Common.{◌≡◌, ◌⊎◌, ◌+◌, ◌-◌, ◌==◌, ◌/◌, ℕ, Bool, true, false, List, [], ◌∷◌, Option, Some, inl, inr, refl, sym, ap, ◌∙◌, subst, arith, if◌then◌else◌}
use Rattle.std.specs.Option.{option_map_or}
use Rattle.std.proofs.lemmas.Bool.Decides.{eqb_tells}
use Rattle.spv_ops.specs.Enumerants.{class_number, decoration_number}
use Rattle.spv_ops.specs.declared.StorageClass.TheVariants as storage
use Rattle.spv_ops.specs.declared.Decoration.TheVariants as decoration
use Rattle.spv_module.specs.Lists.{id}
use Rattle.spv_module.specs.declared.inst.Inst.{Inst}
use Rattle.spv_module.specs.declared.inst.Function.{Function}
use Rattle.spv_types.specs.Tree as plain
use Rattle.spv_types.specs.Tree.{Tree, word as word_value}
use Rattle.spv_types.specs.Types.{type_tree}
use Rattle.spv_decor.specs.Rows.{word}
use Rattle.layout_rules.specs.Sizes.{stride_over}
use Rattle.profile_rules.specs.declared.given.Given.{Given}
use Rattle.traces.specs.Outcomes.{Result, got, with_before, then_get, or_stuck}
use Rattle.module_semantics.specs.Setting.{Setting}
use Rattle.module_semantics.specs.Memory.{decorated, member_offset, part_type, variable_type, elements}
use Rattle.module_semantics.specs.State.{global, Conf}
use Rattle.name_alloc.specs.declared.claims.Key.{Key}
use Rattle.name_alloc.specs.declared.claims.Key.TheVariants.{Id, Member}
use Rattle.access_paths.specs.Ways.{Way, start, path}
use Rattle.glsl_ast.specs.Tree as text
use Rattle.glsl_ast.specs.Tree.{Text, Expr, build, type_name, exprs_in}
use Rattle.glsl_ast.specs.declared.items.BlockPlace.TheVariants.{Set, Push}
use Rattle.glsl_semantics.specs.Shapes.{int, uint, runtime, Typed, typed, tree_of}
use Rattle.glsl_semantics.specs.Places.{in_buffer}
use Rattle.glsl_semantics.specs.States.{State, Thing, value, instance, memory, site_at, member_of, strides_behind, length_value}
use Rattle.glsl_semantics.specs.Expressions.{Program, Argument, named, then_fetch, denote, evaluate}
use Rattle.text_rules.specs.Declarations.{place_of}
use Rattle.expr_forward.specs.Scope as scope
use Rattle.expr_forward.specs.Paths as paths
use Rattle.expr_forward.specs.Paths.{name_in, base_text, place_expr}
use Rattle.fits_law.specs.Takes.{nth_of}
use Rattle.type_law.specs.Shaped.{AreConstants}
use Rattle.lowering_law.proofs.Saying.{says_build}
use Rattle.agree_law.specs.Agree.{Naming, Agree}
use Rattle.global_law.specs.Parts.{StructNames, HasMembersApart, shape_in}
use Rattle.global_law.specs.Laid.{IsLaidOut, HasLengths}
use Rattle.global_law.specs.Walks.{writing, struct_names}
use Rattle.global_law.specs.Starts.{members_in, IsBlock}
use Rattle.global_law.proofs.Path.Bytes.{stride_same, member_lengths}
use Rattle.global_law.proofs.Path.BlockLayouts.{block_laid}
use Rattle.global_law.proofs.Path.Starts.{outside_is, member_in_block}

-- as many strides as there are bytes: none where the stride is 0
strides_are : (bytes byte stride : ℕ) → strides_behind bytes byte stride ≡ (bytes - byte) / stride
strides_are bytes byte stride = by_test (stride == 0) (eqb_tells stride 0)
  where
    by_test : (t : Bool) → ((t ≡ true) × (stride ≡ 0)) ⊎ ((t ≡ false) × (stride ≡ 0 → ⊥)) → (if t then 0 else (bytes - byte) / stride) ≡ (bytes - byte) / stride
    by_test true (inl w) = sym (ap (λ k. (bytes - byte) / k) w.1 ∙ (let none : (bytes - byte) / 0 ≡ 0 = omega arith in none))
    by_test true (inr w) = cc
    by_test false w = refl

module _ (p : Program) (calls : Text → List Argument → State → Result (Option Typed × State)) (z : State) (m : Naming) (s : Setting) (overrides : List (ℕ × Given)) (f : Function) (key : Key → Text) (globals : ℕ → Option Expr) (right : AreConstants s) (c : Conf) (agree : Agree m c z) (told : p.invocation ≡ s.invocation) where
  abbrev W : scope.Setting
  W = writing s overrides f key globals

  abbrev Y : StructNames
  Y = struct_names key

  abbrev set : Inst → ℕ
  set v = decorated s (decoration_number decoration.DescriptorSet) v.result

  abbrev binding : Inst → ℕ
  binding v = decorated s (decoration_number decoration.Binding) v.result

  in_set : (v : Inst) → (word v 0 ≡ class_number storage.StorageBuffer) ⊎ (word v 0 ≡ class_number storage.Uniform) → place_of W.source v ≡ Set (set v) (binding v)
  in_set v (inl is) = ap (λ a. if a == class_number storage.PushConstant then Push else Set (set v) (binding v)) is
  in_set v (inr is) = ap (λ a. if a == class_number storage.PushConstant then Push else Set (set v) (binding v)) is

  -- T7: a block variable, and the number of its runtime array
  module _ (b n k : ℕ) (t u : Tree) (is : IsBlock p m s W.source key globals n t (global n) []) (members : HasMembersApart Y t) (way : path s.of.globals f b n ≡ start n)
      (in_memory : (word is.inst 0 ≡ class_number storage.StorageBuffer) ⊎ (word is.inst 0 ≡ class_number storage.Uniform)) (at : nth_of is.parts k ≡ Some (plain.runtime u)) where
    abbrev ty : ℕ
    ty = variable_type s is.inst

    typed_whole : type_tree s.of.globals ty ≡ Some (plain.struct ty is.parts)
    typed_whole = is.typed_as ∙ ap (λ a. Some a) is.shape

    laid : IsLaidOut s is.kind (part_type s ty k) (plain.runtime u)
    laid = block_laid s is.kind is.inst is.type ty ty is.parts k (plain.runtime u) is.takes is.type_there typed_whole at

    lengths : HasLengths (plain.runtime u)
    lengths = member_lengths is.parts k (plain.runtime u) (subst HasLengths is.shape is.lengths) at

    abbrev array : Thing
    array = memory (in_buffer (set is.inst) (binding is.inst) is.kind (member_offset s ty k)) (runtime (shape_in s Y u))

    named_block : denote p calls (place_expr W b n) z ≡ got [] (instance (place_of W.source is.inst) is.kind (members_in s Y ty 0 is.parts), z)
    named_block =
        let o = agree.outside (key (Id (id n))) is.outside in
        let base : base_text W n ≡ key (Id (id n)) = ap (λ o. option_map_or name_in o (key (Id (id n)))) is.itself in
        ap (λ (w : Way). denote p calls (paths.lvalue_expr (paths.way_text W w)) z) way
        ∙ ap (λ o. or_stuck o (λ x. got [] (x, z))) (ap (named p z) base ∙ outside_is p z (key (Id (id n))) o.0 o.1 ∙ is.thing)

    member_there : member_of (instance (place_of W.source is.inst) is.kind (members_in s Y ty 0 is.parts)) (key (Member (id ty) k)) ≡ Some array
    member_there =
        member_in_block s Y (place_of W.source is.inst) is.kind ty is.parts (subst (HasMembersApart Y) is.shape members).0 is.parts 0 k k (plain.runtime u) (let none : k ≡ 0 + k = omega arith in none) at at
        ∙ ap (λ q. Some (memory (site_at q is.kind (member_offset s ty k)) (runtime (shape_in s Y u)))) (in_set is.inst in_memory)

    length_there : length_value p.invocation array ≡ Some (value (typed int (word_value (elements s is.inst k))))
    length_there =
        ap (λ inv. length_value inv array) told
        ∙ ap (λ q. Some (value (typed int (word_value q)))) (strides_are (s.invocation.buffer_bytes (set is.inst) (binding is.inst)) (member_offset s ty k) (stride_over is.kind (tree_of (shape_in s Y u)))
        ∙ ap (λ q. (s.invocation.buffer_bytes (set is.inst) (binding is.inst) - member_offset s ty k) / q) (stride_same s Y is.kind u lengths ∙ sym laid.0))

    -- OpArrayLength
    pub length_says : evaluate p calls (build (type_name text.uint []) (exprs_in (Expr.length_of (Expr.member (place_expr W b n) (key (Member (id ty) k))) ∷ []))) z ≡ got [] (typed uint (word_value (elements s is.inst k)), z)
    length_says =
        says_build p calls z (type_name text.uint []) uint (exprs_in (Expr.length_of (Expr.member (place_expr W b n) (key (Member (id ty) k))) ∷ [])) (typed int (word_value (elements s is.inst k)) ∷ []) (typed uint (word_value (elements s is.inst k))) refl (length_of_says, tt) refl
      where
        member_denotes : denote p calls (Expr.member (place_expr W b n) (key (Member (id ty) k))) z ≡ got [] (array, z)
        member_denotes =
            ap (λ (g : Result (Thing × State)). then_get g (λ x. or_stuck (member_of x.0 (key (Member (id ty) k))) (λ y. got [] (y, x.1)))) named_block
            ∙ ap (λ o. with_before {A = Thing × State} [] (or_stuck o (λ y. got [] (y, z)))) member_there

        length_of_says : evaluate p calls (Expr.length_of (Expr.member (place_expr W b n) (key (Member (id ty) k)))) z ≡ got [] (typed int (word_value (elements s is.inst k)), z)
        length_of_says =
            ap (λ (g : Result (Thing × State)). then_fetch (then_get g (λ x. or_stuck (length_value p.invocation x.0) (λ y. got [] (y, x.1)))) (λ v q. got [] (v, q))) member_denotes
            ∙ ap (λ o. then_fetch (with_before {A = Thing × State} [] (or_stuck o (λ y. got [] (y, z)))) (λ v q. got [] (v, q))) length_there
