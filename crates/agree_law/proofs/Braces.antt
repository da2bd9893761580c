-- Braces and flags keep an agreement: all that following a tree of regions asks of what holds at a block.
use Rattle.std.proofs.Common.{◌≡◌, ◌||◌, ℕ, Bool, true, false, List, ◌∷◌, drop, sym, ◌∙◌, subst}
use Rattle.std.proofs.lemmas.Bool.{or_left, or_right}
use Rattle.spv_types.specs.Tree.{ValueTree}
use Rattle.glsl_ast.specs.Tree.{Text}
use Rattle.glsl_semantics.specs.States.{Variable, Frame, State, has_in, put_in, declared, pushed, popped}
use Rattle.module_semantics.specs.State.{Conf}
use Rattle.region_law.proofs.Flags.{other_put, other_declared}
use Rattle.agree_law.specs.Own.{Own}
use Rattle.agree_law.specs.Agree.{Naming, is_named, IsOther, Agree, AgreeIn}
use Rattle.agree_law.proofs.Owned.{own_push, own_declared, own_put_other, none_declared, none_put, none_pop}

pub outer_named : (m : Naming) (n : ℕ) → m.is_outer n ≡ true → is_named m n ≡ true
outer_named m n e = or_left (m.is_outer n) (m.is_local n || (m.is_variable n || (m.is_lent n || m.is_private n))) e

pub local_named : (m : Naming) (n : ℕ) → m.is_local n ≡ true → is_named m n ≡ true
local_named m n e = or_right (m.is_outer n) _ (or_left (m.is_local n) (m.is_variable n || (m.is_lent n || m.is_private n)) e)

pub variable_named : (m : Naming) (n : ℕ) → m.is_variable n ≡ true → is_named m n ≡ true
variable_named m n e = or_right (m.is_outer n) _ (or_right (m.is_local n) _ (or_left (m.is_variable n) (m.is_lent n || m.is_private n) e))

pub lent_named : (m : Naming) (n : ℕ) → m.is_lent n ≡ true → is_named m n ≡ true
lent_named m n e = or_right (m.is_outer n) _ (or_right (m.is_local n) _ (or_right (m.is_variable n) _ (or_left (m.is_lent n) (m.is_private n) e)))

pub private_named : (m : Naming) (n : ℕ) → m.is_private n ≡ true → is_named m n ≡ true
private_named m n e = or_right (m.is_outer n) _ (or_right (m.is_local n) _ (or_right (m.is_variable n) _ (or_right (m.is_lent n) (m.is_private n) e)))

module _ (m : Naming) (c : Conf) (s : State) where
  -- a flag is declared, or set
  pub declares : (x : Text) (u : Variable) → IsOther m x → Agree m c s → Agree m c (record s { frames = declared s.frames x u })
  declares x u other a = record {
    outer = λ n e. own_declared s.frames (m.name n) x _ u (other.name n (outer_named m n e)) (a.outer n e);
    variables = λ n e. own_declared s.frames (m.name n) x _ u (other.name n (variable_named m n e)) (a.variables n e);
    lents = λ n e. let l = a.lents n e in (l.0, own_declared s.frames (m.name n) x _ u (other.name n (lent_named m n e)) l.1, l.2);
    privates = λ n e. let p = a.privates n e in (p.0, none_declared s.frames (m.name n) x u (other.name n (private_named m n e)) p.1);
    kept = λ q k e. let i = a.kept q k e in (i.0, own_declared s.frames (m.index_name q k) x _ u (other.index q k e) i.1, i.2);
    outside = λ y e. let o = a.outside y e in (none_declared s.frames y x u (other.outside y e) o.0, o.1);
  }

  pub puts : (x : Text) (u : ValueTree) → IsOther m x → Agree m c s → Agree m c (record s { frames = put_in s.frames x u })
  puts x u other a = record {
    outer = λ n e. own_put_other s.frames (m.name n) x _ u (other.name n (outer_named m n e)) (a.outer n e);
    variables = λ n e. own_put_other s.frames (m.name n) x _ u (other.name n (variable_named m n e)) (a.variables n e);
    lents = λ n e. let l = a.lents n e in (l.0, own_put_other s.frames (m.name n) x _ u (other.name n (lent_named m n e)) l.1, l.2);
    privates = λ n e. let p = a.privates n e in (p.0, none_put s.frames (m.name n) x u p.1);
    kept = λ q k e. let i = a.kept q k e in (i.0, own_put_other s.frames (m.index_name q k) x _ u (other.index q k e) i.1, i.2);
    outside = λ y e. let o = a.outside y e in (none_put s.frames y x u o.0, o.1);
  }

  -- braces are entered
  pub enters : Agree m c s → Agree m c (pushed s)
  enters a = record {
    outer = λ n e. own_push s.frames (m.name n) _ (a.outer n e);
    variables = λ n e. own_push s.frames (m.name n) _ (a.variables n e);
    lents = λ n e. let l = a.lents n e in (l.0, own_push s.frames (m.name n) _ l.1, l.2);
    privates = λ n e. a.privates n e;
    kept = λ q k e. let i = a.kept q k e in (i.0, own_push s.frames (m.index_name q k) _ i.1, i.2);
    outside = λ y e. a.outside y e;
  }

  -- and left, where other braces stand round them
  pub exits : (f g : Frame) (fs : List Frame) → s.frames ≡ f ∷ g ∷ fs → Agree m c s → Agree m c (popped s)
  exits f g fs is a = record {
    outer = λ n e. one (m.name n) _ (a.outer n e);
    variables = λ n e. one (m.name n) _ (a.variables n e);
    lents = λ n e. let l = a.lents n e in (l.0, one (m.name n) _ l.1, l.2);
    privates = λ n e. let p = a.privates n e in (p.0, hidden (m.name n) p.1);
    kept = λ q k e. let i = a.kept q k e in (i.0, one (m.index_name q k) _ i.1, i.2);
    outside = λ y e. let o = a.outside y e in (hidden y o.0, o.1);
  }
    where
      one : (x : Text) (v : Variable) → Own s.frames x v → Own (drop 1 s.frames) x v
      one x v h = subst (λ fs. Own fs x v → Own (drop 1 fs) x v) (sym is) (λ o. o.1) h

      hidden : (x : Text) → has_in s.frames x ≡ false → has_in (drop 1 s.frames) x ≡ false
      hidden x h = subst (λ fs. has_in fs x ≡ false → has_in (drop 1 fs) x ≡ false) (sym is) (none_pop f (g ∷ fs) x) h

  module _ (done : ℕ → Bool) where
    -- the same in a block; its own variables end with its braces
    pub declares_in : (x : Text) (u : Variable) → IsOther m x → AgreeIn m done c s → AgreeIn m done c (record s { frames = declared s.frames x u })
    declares_in x u other a = record { all = declares x u other a.all; local = λ n d e. other_declared s.frames x (m.name n) u (other.name n (local_named m n e)) ∙ a.local n d e }

    pub puts_in : (x : Text) (u : ValueTree) → IsOther m x → AgreeIn m done c s → AgreeIn m done c (record s { frames = put_in s.frames x u })
    puts_in x u other a = record { all = puts x u other a.all; local = λ n d e. other_put s.frames x (m.name n) u (other.name n (local_named m n e)) ∙ a.local n d e }

    pub enters_in : AgreeIn m done c s → AgreeIn m done c (pushed s)
    enters_in a = record { all = enters a.all; local = λ n d e. a.local n d e }
