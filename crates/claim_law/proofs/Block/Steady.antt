-- The expression of a value that has no variable is that of its operation, over the expressions of its operands.
use Rattle.std.proofs.Common.{◌≡◌, ◌<◌, ◌≤◌, ℕ, zero, suc, List, [], ◌∷◌, drop, map, Option, Some, None, refl, ap, ◌∙◌, arith, unwrap_or}
use Rattle.std.specs.Prelude.{slice_index}
use Rattle.spv_module.specs.declared.inst.Inst.{Inst}
use Rattle.hoist_plan.specs.declared.form.Form.{Form}
use Rattle.hoist_plan.specs.declared.form.Form.TheVariants.{Gone, Forwarded, Local, Hoisted}
use Rattle.glsl_ast.specs.Tree.{Expr, build, exprs_in}
use Rattle.text_rules.specs.Outlines.{basic}
use Rattle.text_rules.specs.Declarations.{shape_at, type_at}
use Rattle.expr_forward.specs.declared.kinds.OperationKind.{OperationKind}
use Rattle.expr_forward.specs.declared.kinds.OperationKind.TheVariants as kind
use Rattle.expr_forward.specs.Scope.{Scope, Argument, globals, inst_at, type_of}
use Rattle.expr_forward.specs.Paths.{word_at, further, part_steps}
use Rattle.expr_forward.specs.Kinds.{operation_kind_of}
use Rattle.expr_forward.specs.Values.{variable, argument, value_words, literal_words, operation_text, by_kind, expression, forwarded, by_form, value_in, value}
use Rattle.claim_law.specs.Ranked.{ids_by_kind, operand_ids, AreUsableBelow, IsForwardedBy, IsRanked}

-- two ways to write values agree on these
abbrev AreSame : (ℕ → Expr) → (ℕ → Expr) → List ℕ → Type 0
AreSame f g [] = Unit {0}
AreSame f g (n ∷ ns) = (f n ≡ g n) × AreSame f g ns

module _ (w : Scope) (f g : ℕ → Expr) where
  one_argument : (n : ℕ) → f n ≡ g n → argument w f n ≡ argument w g n
  one_argument n same = ap (λ (e : Expr). record { expr = e; shape = basic (globals w) (type_of w n); word = word_at w.setting n }) same

  arguments_are : (ns : List ℕ) → AreSame f g ns → map (argument w f) ns ≡ map (argument w g) ns
  arguments_are [] same = refl
  arguments_are (n ∷ ns) same = ap (λ (a : Argument). a ∷ map (argument w f) ns) (one_argument n same.0) ∙ ap (λ (as' : List Argument). argument w g n ∷ as') (arguments_are ns same.1)

  values_are : (ns : List ℕ) → AreSame f g ns → map f ns ≡ map g ns
  values_are [] same = refl
  values_are (n ∷ ns) same = ap (λ (e : Expr). e ∷ map f ns) same.0 ∙ ap (λ (es : List Expr). g n ∷ es) (values_are ns same.1)

  operation_is : (number : ℕ) (i : Inst) (args : List ℕ) → AreSame f g (value_words i.op args) → operation_text w f number i args ≡ operation_text w g number i args
  operation_is number i args same = ap (λ (xs : List Argument). w.lowered i.op number (basic (globals w) i.ty) xs (literal_words i.op args)) (arguments_are (value_words i.op args) same)

  kind_is : (block : ℕ) (i : Inst) (k : OperationKind) → AreSame f g (ids_by_kind k i) → by_kind w f block i k ≡ by_kind w g block i k
  kind_is block i kind.Undef same = refl
  kind_is block i kind.CopyObject same = same.0
  kind_is block i kind.ArrayLength same = refl
  kind_is block i kind.CompositeExtract same = ap (λ (e : Expr). further e (part_steps w.setting (type_of w (slice_index i.args 0)) (drop 1 i.args))) same.0
  kind_is block i kind.CompositeConstruct same = ap (λ (es : List Expr). build (type_at w.setting.source w.names i.ty) (exprs_in es)) (values_are i.args same)
  kind_is block i kind.CopyLogical same =
      ap (λ (e : Expr). w.lowered i.op 0 (shape_at w.setting.source i.ty) (record { expr = e; shape = shape_at w.setting.source (type_of w (slice_index i.args 0)); word = None } ∷ []) []) same.0
  kind_is block i kind.Extended same = operation_is (slice_index i.args 1) i (drop 2 i.args) same
  kind_is block i kind.Plain same = operation_is 0 i i.args same
  kind_is block i kind.Other same = refl

  expression_is : (block : ℕ) (i : Inst) → AreSame f g (operand_ids i) → expression w f block i ≡ expression w g block i
  expression_is block i same = kind_is block i (operation_kind_of i.op) same

module _ (w : Scope) (IsUsable : ℕ → Type 0) (rank : ℕ → ℕ) (ranked : IsRanked w IsUsable rank) (block : ℕ) where
  abbrev Each : ℕ → ℕ → Type 0
  Each d e = (id : ℕ) → IsUsable id → rank id < d → rank id < e → value_in w block d id ≡ value_in w block e id

  all_same : (d e n : ℕ) (ids : List ℕ) → n ≤ d → n ≤ e → AreUsableBelow IsUsable rank n ids → Each d e → AreSame (value_in w block d) (value_in w block e) ids
  all_same d e n [] p q below each = tt
  all_same d e n (id ∷ ids) p q below each =
      let less = below.1 in
      (each id below.0 (omega (arith, less, p)) (omega (arith, less, q)), all_same d e n ids p q below.2 each)

  -- how deep it may stand does not matter, where it is deep enough
  steady : (d e n : ℕ) → IsUsable n → rank n < d → rank n < e → value_in w block d n ≡ value_in w block e n
  unfolding value_in
  steady zero e n usable p q = absurd (omega (arith, p))
  steady (suc d) zero n usable p q = absurd (omega (arith, q))
  steady (suc d) (suc e) n usable p q = by_global (w.setting.global n) refl (steady d e)
    where
      by_inst : (o : Option Inst) → w.setting.global n ≡ None → w.form n ≡ Forwarded → inst_at w n ≡ o → Each d e → forwarded w (value_in w block d) block n o ≡ forwarded w (value_in w block e) block n o
      by_inst None local form there each = refl
      by_inst (Some i) local form there each =
          expression_is w (value_in w block d) (value_in w block e) block i (all_same d e (rank n) (operand_ids i) (omega (arith, p)) (omega (arith, q)) (ranked.falls n i usable (record { local = local; form = form; there = there })) each)

      by_the_form : (x : Form) → w.setting.global n ≡ None → w.form n ≡ x → Each d e → by_form w (value_in w block d) block n x ≡ by_form w (value_in w block e) block n x
      by_the_form Forwarded local form each = by_inst (inst_at w n) local form refl each
      by_the_form Gone local form each = refl
      by_the_form Local local form each = refl
      by_the_form Hoisted local form each = refl

      by_global : (o : Option Expr) → w.setting.global n ≡ o → Each d e → unwrap_or o (by_form w (value_in w block d) block n (w.form n)) ≡ unwrap_or o (by_form w (value_in w block e) block n (w.form n))
      by_global (Some x) is each = refl
      by_global None is each = by_the_form (w.form n) is refl each

  -- a usable value that has no variable is written as its operation
  pub written_as : (n : ℕ) (i : Inst) → IsUsable n → IsForwardedBy w n i → value w block n ≡ expression w (value w block) block i
  unfolding value_in
  written_as n i usable by =
      let low = ranked.low n in
      ap (λ (o : Option Expr). unwrap_or o (by_form w (value_in w block 16) block n (w.form n))) by.local
      ∙ (ap (by_form w (value_in w block 16) block n) by.form
      ∙ (ap (forwarded w (value_in w block 16) block n) by.there
      ∙ expression_is w (value_in w block 16) (value_in w block 17) block i (all_same 16 17 (rank n) (operand_ids i) low (omega (arith, low)) (ranked.falls n i usable by) (λ id is less more. steady 16 17 id is less more))))

module _ (w : Scope) (block : ℕ) where
  -- and one that has a variable, by its name
  pub written_by_name : (n : ℕ) → w.setting.global n ≡ None → ((w.form n ≡ Forwarded) → ⊥) → value w block n ≡ variable w n
  unfolding value_in
  written_by_name n local named = ap (λ (o : Option Expr). unwrap_or o (by_form w (value_in w block 16) block n (w.form n))) local ∙ by_the_form (w.form n) named
    where
      by_the_form : (x : Form) → (x ≡ Forwarded → ⊥) → by_form w (value_in w block 16) block n x ≡ variable w n
      by_the_form Forwarded named = absurd (named refl)
      by_the_form Gone named = refl
      by_the_form Local named = refl
      by_the_form Hoisted named = refl

  -- and a constant, or what is built in, as it is read
  pub written_as_read : (n : ℕ) (e : Expr) → w.setting.global n ≡ Some e → value w block n ≡ e
  unfolding value_in
  written_as_read n e is = ap (λ (o : Option Expr). unwrap_or o (by_form w (value_in w block 16) block n (w.form n))) is
