-- What loads, stores and atomic instructions ask of the text of their pointer: from how pointers are written in the block, and what is known of the module's state.
use Rattle.std.proofs.Common.{◌≡◌, ◌≢◌, ◌⊎◌, ℕ, true, List, [], Option, Some, inl, inr, ap, ◌∙◌, subst}
use Rattle.spv_ops.specs.declared.AtomicOp.{AtomicOp}
use Rattle.spv_module.specs.declared.inst.Inst.{Inst}
use Rattle.spv_module.specs.declared.inst.Function.{Function}
use Rattle.spv_types.specs.Tree.{Tree}
use Rattle.profile_rules.specs.declared.given.Given.{Given}
use Rattle.traces.specs.Events.{Access, Location}
use Rattle.traces.specs.Runs.{Supplied}
use Rattle.traces.specs.Outcomes.{Result}
use Rattle.module_semantics.specs.Setting.{Setting}
use Rattle.module_semantics.specs.Memory.{location}
use Rattle.module_semantics.specs.State.{Root, global, own, lent, Frame, Conf}
use Rattle.module_semantics.specs.Operands.{pointer_at, Target, arg}
use Rattle.module_semantics.specs.Accesses.{seen}
use Rattle.module_semantics.specs.Steps.{base}
use Rattle.name_alloc.specs.declared.claims.Key.{Key}
use Rattle.glsl_ast.specs.Tree.{Text, Expr, Exprs, expr}
use Rattle.glsl_semantics.specs.Shapes.{Shape, Typed}
use Rattle.glsl_semantics.specs.States.{State}
use Rattle.glsl_semantics.specs.Expressions.{Program, Argument}
use Rattle.expr_forward.specs.Scope as scope
use Rattle.expr_forward.specs.Paths.{place_expr}
use Rattle.type_law.specs.Shaped.{AreConstants}
use Rattle.agree_law.specs.Agree.{Naming, AreApart, IfPointer, IsFar}
use Rattle.agree_law.specs.Blocks.{Stands}
use Rattle.agree_law.specs.Evaluates.{IsKept}
use Rattle.agree_law.proofs.Machine.{machine}
use Rattle.agree_law.proofs.Instructions.{Reads, Writes, Updates}
use Rattle.call_law.specs.Known.{is_parameter, IsOfBelow, LendsWhole}
use Rattle.call_law.proofs.Lending.{if_pointer, of_pointer}
use Rattle.global_law.specs.Parts.{shape_in}
use Rattle.global_law.specs.Walks.{writing, struct_names}
use Rattle.global_law.specs.Pointers.{Written}
use Rattle.global_law.specs.Chains.{AreLed, ChainsAreRight}
use Rattle.global_law.specs.Writings.{IsWrittenChain, IsWrittenStart}
use Rattle.global_law.proofs.Path.Based.{rank}
use Rattle.global_law.proofs.Path.Pointers.{Leads, pointer_leads}
use Rattle.global_law.proofs.Path.Reached.{IsRightChain}
use Rattle.global_law.proofs.Path.Writings.{goes_on, begins}
use Rattle.global_law.proofs.Path.Accesses.{PointsTo, SaysOperands, reads_met, updates_met}
use Rattle.global_law.proofs.Path.Stored.{left_name, left_steps, AreLent, Stores, writes_met}

far_from : (ds : List (Frame × ℕ)) (r : Root) → IsOfBelow ds r → IsFar r × ((n : ℕ) → r ≢ global n)
far_from ds (lent depth k) is = (tt, λ n e. cc)
far_from ds (global k) is = absurd is
far_from ds (own k) is = absurd is

module _ (p : Program) (calls : Text → List Argument → State → Result (Option Typed × State)) (k : ℕ) (m : Naming) (names : AreApart m) (s : Setting) (Holds : Conf → Type 0) (f : Function) (b : ℕ) (keeps : IsKept (machine s) Holds) (done : List Inst) (i : Inst) (rest : List Inst)
    (overrides : List (ℕ × Given)) (key : Key → Text) (globals : ℕ → Option Expr) (right : AreConstants s) (c : Supplied Conf) (z : State) (stands : Stands m s Holds f b done c z)
    (known : AreLed s c.at.below c.at.top) (whole : LendsWhole s) (rules : ChainsAreRight s) (IsUsable : ℕ → Type 0) where
  abbrev W : scope.Setting
  W = writing s overrides f key globals

  abbrev S : Tree → Shape
  S t = shape_in s (struct_names key) t

  -- how a pointer is written in the block: as what it begins with, or as a chain, whose base may be written there too
  abbrev pub IsWrittenSo : ℕ → Type 0
  IsWrittenSo n =
      IsWrittenStart p calls z m s overrides f key globals b done n
      ⊎ ((q : Inst) × (q.result ≡ n) × IsWrittenChain p calls z m s overrides f key globals b done q × IsRightChain s f right q × IsUsable (base q))

  module _ (ways : (n : ℕ) → IsUsable n → IsWrittenSo n) where
    written : (n : ℕ) → IsUsable n → Written p calls z m s overrides f key globals c.at b (rank f) IsUsable n
    written n usable = by_way (ways n usable)
      where
        by_way : IsWrittenSo n → Written p calls z m s overrides f key globals c.at b (rank f) IsUsable n
        by_way (inl is) = inl (begins p calls m s Holds f b done overrides key globals right c z stands known whole rules n is)
        by_way (inr w) =
            subst (Written p calls z m s overrides f key globals c.at b (rank f) IsUsable) w.1
            (inr (goes_on p calls m s Holds f b done overrides key globals right c z stands known whole rules IsUsable w.0 w.2 w.3 w.4))

    -- So a pointer that may be written there stands for what it leads to.
    pub leads_there : (n : ℕ) → IsUsable n → (r : Root) (at : List ℕ) → pointer_at s c.at.top n ≡ Some (r, at) → Leads p calls z m s overrides f key globals right c.at stands.agree.all b n r at
    leads_there n usable r at is = pointer_leads p calls z m s overrides f key globals right c.at stands.agree.all b (rank f) IsUsable written n usable r at is

    pub load_met : (t : Tree) → PointsTo p calls k m names s Holds f b keeps done i rest overrides key globals right c z stands t → m.shape i.result ≡ S t → IsUsable (arg i 0) → Reads p calls k m names s Holds f b keeps done i rest c z (place_expr W b (arg i 0))
    load_met t q result usable = reads_met p calls k m names s Holds f b keeps done i rest overrides key globals right c z stands t q result (leads_there (arg i 0) usable)

    -- of the module's calls: parameters lead to variables of calls below, no two to one
    pub are_lent : ((n : ℕ) → m.is_lent n ≡ true → is_parameter f n ≡ true) → AreLent p calls k m names s Holds f b keeps done i rest overrides key globals right c z stands
    are_lent lents = record {
      far = λ a on n. if_pointer (λ r at. r ≢ global n) (c.at.top.ids a) (λ r at is. (far_from c.at.below r (of_pointer (λ r path. IsOfBelow c.at.below r × (path ≡ [])) (c.at.top.ids a) r at is (known.lending.parameters a (parameter a on))).0).1 n);
      no_two = λ a q r at on too differ is. if_pointer (λ y at. IsFar y × (y ≢ r)) (c.at.top.ids a) (λ y way has. (
        (far_from c.at.below y (of_pointer (λ r path. IsOfBelow c.at.below r × (path ≡ [])) (c.at.top.ids a) y way has (known.lending.parameters a (parameter a on))).0).0,
        of_pointer (λ q way. y ≢ q) (c.at.top.ids q) r at is (of_pointer (λ r path. IfPointer (c.at.top.ids q) (λ q way. r ≢ q)) (c.at.top.ids a) y way has (known.lending.apart a q (parameter a on) (parameter q too) differ)),
      ));
    }
      where
        parameter : (n : ℕ) → m.is_lent n ≡ true → is_parameter c.at.top.function n ≡ true
        parameter n on = ap (λ g. is_parameter g n) stands.function ∙ lents n on

    pub store_met : (t : Tree) → PointsTo p calls k m names s Holds f b keeps done i rest overrides key globals right c z stands t → (e : Expr) → Stores p calls k m names s Holds f b keeps done i rest overrides key globals right c z stands t e → ((n : ℕ) → m.is_lent n ≡ true → is_parameter f n ≡ true) → IsUsable (arg i 0)
        → Writes p calls k m names s Holds f b keeps done i rest c z (left_name p calls k m names s Holds f b keeps done i rest overrides key globals right c z stands) (left_steps p calls k m names s Holds f b keeps done i rest overrides key globals right c z stands) e
    store_met t q e g lents usable = writes_met p calls k m names s Holds f b keeps done i rest overrides key globals right c z stands t q (leads_there (arg i 0) usable) e g (are_lent lents)

    pub atomic_met : (o : AtomicOp) (t : Tree) → PointsTo p calls k m names s Holds f b keeps done i rest overrides key globals right c z stands t → IsUsable (arg i 0) → (w : Text) (es : Exprs) (access : Location → Access)
        → SaysOperands p calls k m names s Holds f b keeps done i rest overrides key globals right c z stands o w es (S t) access → (g : Target) (v : Inst) → pointer_at s c.at.top (arg i 0) ≡ Some g → seen s g.0 ≡ Some v
        → Updates p calls k m names s Holds f b keeps done i rest o z w (expr (place_expr W b (arg i 0)) es) (S t) (access (location s v g.1))
    atomic_met o t q usable w es access says g v is sees = updates_met p calls k m names s Holds f b keeps done i rest overrides key globals right c z stands o t q (leads_there (arg i 0) usable) w es access says g v is sees
