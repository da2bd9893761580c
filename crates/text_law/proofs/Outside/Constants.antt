-- What the functions of an accepted module's text read of constants says what the module has.
use Rattle.std.proofs.Common.{◌≡◌, ◌==◌, ℕ, true, List, [], Option, Some, refl, sym, ap, ◌∙◌, subst}
use Rattle.std.specs.Prelude.{bytes_eq, option_and_then, unwrap_or}
use Rattle.std.specs.Option.{option_or}
use Rattle.std.specs.List.{list_any}
use Rattle.std.proofs.lemmas.Slice.Eq.{bytes_eq-Decides}
use Rattle.std.proofs.lemmas.Bool.{and_from, or_left, or_right}
use Rattle.spv_module.specs.Held.{global as global_inst}
use Rattle.spv_module.specs.Lists.{id}
use Rattle.spv_module.specs.State.{ModuleState}
use Rattle.spv_module.specs.declared.inst.Inst.{Inst}
use Rattle.spv_module.specs.declared.inst.Function.{Function}
use Rattle.spv_types.specs.Tree as plain
use Rattle.spv_types.specs.Tree.{Tree, ValueTree, word}
use Rattle.spv_types.specs.Types.{type_tree}
use Rattle.op_semantics.specs.Fits.{fits}
use Rattle.spv_index.specs.Locals.{typed, local_type, type_in}
use Rattle.conformance.specs.Rules.{Options}
use Rattle.module_check.specs.Judged.{IsFine}
use Rattle.module_check.specs.ReadFrom.{IsReadFrom}
use Rattle.traces.specs.Invocations.{Invocation, IsInvocation}
use Rattle.traces.specs.Outcomes.{Result, got}
use Rattle.module_semantics.specs.Setting.{Setting}
use Rattle.module_semantics.specs.State.{Conf}
use Rattle.name_alloc.specs.declared.claims.Key.{Key}
use Rattle.name_alloc.specs.declared.claims.Key.TheVariants.{Id}
use Rattle.name_alloc.specs.Reserved.{has_prefix}
use Rattle.access_paths.specs.Ways.{is_constant_index}
use Rattle.glsl_ast.specs.Tree.{Text, Expr, name, Decl, TranslationUnit}
use Rattle.glsl_semantics.specs.Shapes.{Typed, typed as typed_value}
use Rattle.glsl_semantics.specs.States.{State, index_word}
use Rattle.glsl_semantics.specs.Expressions.{Program, Argument, evaluate}
use Rattle.text_rules.specs.declared.readings.Reading.TheVariants.{Named}
use Rattle.text_rules.specs.Constants.{Source, is_constant, reading, constant_expr, group_size_text}
use Rattle.text_rules.specs.Printed.{Reached, is_needed, is_declared_constant}
use Rattle.text_rules.specs.Declarations.{shape_at, pointee_at}
use Rattle.expr_forward.specs.Paths.{word_at, index_expr}
use Rattle.function_text.specs.Functions.{FunctionPlan, written}
use Rattle.unit_rules.specs.Translation.{id_text, global_expr}
use Rattle.unit_rules.specs.Unit.{source_of, IsUnitOf}
use Rattle.plan_law.specs.InOrder.{IsAmong}
use Rattle.type_law.specs.Shaped.{HasConstants}
use Rattle.agree_law.specs.Agree.{Naming, Agree}
use Rattle.typed_law.specs.Conforms.{IsConforming}
use Rattle.typed_law.proofs.Lists.{found_in}
use Rattle.typed_law.proofs.Values.{typed_is, global_typed_some}
use Rattle.accepted_law.proofs.Accepted.{accepted_conforming}
use Rattle.global_law.specs.Parts.{shape_in}
use Rattle.global_law.specs.Walks.{writing, struct_names, SaysIndex}
use Rattle.global_law.specs.Sources.{chosen}
use Rattle.global_law.proofs.Global.Indexes.{word_number, literal_right}
use Rattle.function_law.specs.Tops.{IsClear}
use Rattle.global_law.specs.Items.{AreAsked}
use Rattle.global_law.proofs.Constant.Valued.{IsValued, valued}
use Rattle.global_law.proofs.Constant.Within.{typed_constant}
use Rattle.global_law.proofs.Constant.Written.{no_pointee}
use Rattle.global_law.proofs.Constant.Standing.{any_among, scalar_fit, constant_op, declared_by}
use Rattle.global_law.proofs.Constant.Constants.{AreFunctions, IsReadHere, mentioned_needed, constants_say}
use Rattle.fits_law.proofs.Steps.{named}
use Rattle.claim_law.proofs.Claim.Apart.{size_reserved}
use Rattle.text_law.specs.Names.{is_outer_global, has_text}
use Rattle.text_law.proofs.Naming.Keys.{S, found as names_found, key as key_of, R, names as names_in}
use Rattle.text_law.specs.Left.{IsLeftOfGlobals}
use Rattle.text_law.proofs.Outside.Text.{fs as function_items, are_functions, asked as asked_of, P as program_in}

-- the name of the size of workgroups begins with a reserved prefix
module _ (bytes : List ℕ) (m : ModuleState) (o : Options) (read : IsReadFrom bytes m) (fine : IsFine m o) (unit : TranslationUnit) (u : IsUnitOf m o unit) (inv : Invocation) (told : IsInvocation inv) (left : IsLeftOfGlobals bytes m o) where
  abbrev s : Setting
  s = S m o unit u inv

  abbrev found : Key → Option Text
  found = names_found m o unit u inv

  abbrev key : Key → Text
  key = key_of m o unit u inv

  abbrev r : Reached
  r = R m o unit u inv

  abbrev src : Source
  src = source_of m o u.entry

  abbrev Gs : List Inst
  Gs = m.globals

  abbrev fs : List Decl
  fs = function_items bytes m o read fine unit u inv told left

  abbrev asked : AreAsked s o.entry o.overrides found r
  asked = asked_of bytes m o read fine unit u inv told left

  abbrev P : Program
  P = program_in bytes m o read fine unit u inv told left

  abbrev globals : ℕ → Option Expr
  globals = global_expr src (id_text found)

  abbrev names : ℕ → Text
  names n = key (Id (id n))

  functions : AreFunctions fs
  functions = are_functions bytes m o read fine unit u inv told left

  abbrev right : IsConforming m o.entry
  right = accepted_conforming bytes m o read fine

  abbrev have : HasConstants s (chosen s o.overrides)
  have = λ k. refl

  -- a live instruction mentions it, or a function's text reads it
  abbrev pub IsMentioned : ℕ → Type 0
  IsMentioned n = list_any (λ (k : ℕ). k == n) r.mentions ≡ true

  -- the type of a constant in a function
  pub constant_shape : (f : Function) (n : ℕ) (h : Inst) (t : Tree) → global_inst Gs n ≡ Some h → is_constant h ≡ true → type_tree Gs h.ty ≡ Some t → shape_in s (struct_names key) (shape_at src (pointee_at src (unwrap_or (type_in Gs f n) 0))) ≡ shape_in s (struct_names key) t
  constant_shape f n h t at constant shape =
      let type_is : type_in Gs f n ≡ Some h.ty =
      ap (λ a. option_or a (local_type f n)) (ap (option_and_then typed) at ∙ typed_is h (global_typed_some s o.entry right h (found_in Gs n h at) (typed_constant h.op constant))) in
      ap (λ a. shape_in s (struct_names key) (shape_at src (pointee_at src (unwrap_or a 0)))) type_is
      ∙ ap (λ a. shape_in s (struct_names key) (shape_at src (unwrap_or a h.ty))) (no_pointee Gs h.ty t shape)
      ∙ ap (λ a. shape_in s (struct_names key) (unwrap_or a plain.uint)) shape

  module _ (p : FunctionPlan) where
    abbrev N : Naming
    N = names_in m o unit u inv p

    abbrev IsReadSo : ℕ → Type 0
    IsReadSo = IsReadHere s o.entry o.overrides found r asked fs functions N

    module _ (n : ℕ) (v : ValueTree) (has : s.constants n ≡ Some v) (mentioned : IsMentioned n) where
      pub it : IsValued s (chosen s o.overrides) asked.have asked.right.results asked.right.rising n v
      it = valued s (chosen s o.overrides) asked.have asked.right.results asked.right.rising n v has

      among : IsAmong it.inst Gs
      among = found_in Gs n it.inst it.there

      itself : it.inst.result ≡ n
      itself = named Gs n it.inst it.there

      pub constant : is_constant it.inst ≡ true
      constant = constant_op s o.entry o.overrides found r asked it.inst v among (ap s.constants itself ∙ has)

      needed : is_needed src r n ≡ true
      needed = mentioned_needed s o.entry o.overrides found r asked fs functions n mentioned

      outside : reading src it.inst ≡ Named → N.is_outside (names n) ≡ true
      outside reads =
          let declared : is_declared_constant src r it.inst ≡ true = declared_by s o.entry o.overrides found r asked it.inst constant reads (subst (λ k. is_needed src r k ≡ true) (sym itself) needed) in
          or_right (has_prefix (names n)) (list_any (has_text s o.overrides r key (names n)) Gs)
          (any_among (has_text s o.overrides r key (names n)) Gs it.inst among
          (and_from (is_outer_global s o.overrides r key it.inst) (bytes_eq (names it.inst.result) (names n)) (or_left (is_declared_constant src r it.inst) _ declared)
          ((bytes_eq-Decides (names it.inst.result) (names n)).1 (ap names itself))))

      abbrev read_so : IsReadSo n
      read_so = record {
        inst = it.inst;
        there = it.there;
        shape = it.shape;
        typed_as = it.typed_as;
        named_as = constant_shape (written p) n it.inst it.shape it.there constant it.typed_as;
        needed = λ reads. needed;
        outside = outside;
        size = or_left (has_prefix group_size_text) (list_any (has_text s o.overrides r key group_size_text) Gs) size_reserved;
      }

      -- Where no variable hides it, the expression of a constant that a function mentions says its value.
      pub constant_read : (calls : Text → List Argument → State → Result (Option Typed × State)) (z : State) → IsClear N z → evaluate P calls (constant_expr src (id_text found) it.inst) z ≡ got [] (typed_value (N.shape n) v, z)
      constant_read calls z clear = (constants_say s o.entry o.overrides found r asked fs functions calls N n v z clear has read_so).1

      pub constant_clear : (calls : Text → List Argument → State → Result (Option Typed × State)) (z : State) → IsClear N z → (e : Expr) × (globals n ≡ Some e) × (evaluate P calls e z ≡ got [] (typed_value (N.shape n) v, z))
      constant_clear calls z clear =
          let c = constants_say s o.entry o.overrides found r asked fs functions calls N n v z clear has read_so in
          (constant_expr src (id_text found) it.inst, c.0, c.1)

      -- and so in each state that agrees with the module's
      pub constant_says : (calls : Text → List Argument → State → Result (Option Typed × State)) (c : Conf) (z : State) → Agree N c z → (e : Expr) × (globals n ≡ Some e) × (evaluate P calls e z ≡ got [] (typed_value (N.shape n) v, z))
      constant_says calls c z agree = constant_clear calls z agree.outside

      -- its shape
      pub constant_fits : (t : Tree) × (N.shape n ≡ shape_in s (struct_names key) t) × (fits t v ≡ true)
      constant_fits = (it.shape, constant_shape (written p) n it.inst it.shape it.there constant it.typed_as, it.fit)

    -- As an index, it says its word; and what is written as a literal is that.
    module _ (calls : Text → List Argument → State → Result (Option Typed × State)) where
      pub index_constant : (c : Conf) (z : State) → Agree N c z → (n : ℕ) → IsMentioned n → (j : ℕ) → is_constant_index Gs n ≡ true → s.constants n ≡ Some (word j) → SaysIndex P calls z (index_expr (writing s o.overrides (written p) key globals) n) j
      index_constant c z agree n mentioned j on has =
          let says = constant_says n (word j) has mentioned calls c z agree in
          let t = constant_fits n (word j) has mentioned in (
            typed_value (N.shape n) (word j),
            ap (λ a. evaluate P calls (unwrap_or a (name (names n))) z) says.1 ∙ says.2,
            ap (λ q. index_word (typed_value q (word j))) t.1 ∙ word_number s (struct_names key) t.0 j (scalar_fit t.0 (word j) tt t.2) t.2,
          )

    pub index_literal : (n l j : ℕ) → word_at (writing s o.overrides (written p) key globals) n ≡ Some l → s.constants n ≡ Some (word j) → l ≡ j
    index_literal n l j written_as has = literal_right s o.overrides have right.results (written p) key globals n l j written_as has
