-- Names of keys are apart: those of a function's values and indexes, of its flags and spares, and of what stands outside of it.
use Rattle.std.proofs.Common.{◌≡◌, ℕ, Bool, true, false, Option, Some, None, codes, inl, inr, refl, sym, ap, ◌∙◌}
use Rattle.std.specs.Prelude.{◌⊎◌}
use Rattle.spv_module.specs.Lists.{id}
use Rattle.name_alloc.specs.declared.claims.Key.{Key}
use Rattle.name_alloc.specs.declared.claims.Key.TheVariants.{Main, Id, Block, Member, Again, Leave, Fell, Captured, Spare}
use Rattle.name_alloc.specs.Reserved.{has_prefix}
use Rattle.name_alloc.specs.Naming.{space_of}
use Rattle.name_alloc.specs.Law.{IsFree, AreNames}
use Rattle.text_rules.specs.Constants.{group_size_text}
use Rattle.glsl_ast.specs.Tree.{Text}
use Rattle.agree_law.specs.Agree.{Naming, is_named, AreApart, IsOther}
use Rattle.claim_law.specs.Apart.{IsOutside, AreOfKeys, is_flow}

abbrev number_in : Key → ℕ
number_in (Id n) = n.0
number_in (Captured q k) = q.0
number_in _ = 0

pub same_number : (a b : ℕ) → Id (id a) ≡ Id (id b) → a ≡ b
same_number a b e = ap number_in e

same_chain : (q k r l : ℕ) → Captured (id q) k ≡ Captured (id r) l → q ≡ r
same_chain q k r l e = ap number_in e

same_index : (q k r l : ℕ) → Captured (id q) k ≡ Captured (id r) l → k ≡ l
same_index q k r l e = cc

no_chain : (n q k : ℕ) → Id (id n) ≡ Captured (id q) k → ⊥
no_chain n q k e = cc

pub main_free : has_prefix (codes "main") ≡ false
unfolding has_prefix
main_free = refl

pub size_reserved : has_prefix group_size_text ≡ true
unfolding has_prefix
size_reserved = refl

flow_no_id : (key : Key) (n : ℕ) → is_flow key ≡ true → key ≡ Id (id n) → ⊥
flow_no_id key n flow e = let never : false ≡ true = ap is_flow (sym e) ∙ flow in absurd cc

flow_no_chain : (key : Key) (q k : ℕ) → is_flow key ≡ true → key ≡ Captured (id q) k → ⊥
flow_no_chain key q k flow e = let never : false ≡ true = ap is_flow (sym e) ∙ flow in absurd cc

flow_space : (key : Key) → is_flow key ≡ true → space_of key ≡ None
flow_space (Again label) flow = refl
flow_space (Leave label) flow = refl
flow_space (Fell label) flow = refl
flow_space (Spare from to number) flow = refl
flow_space Main flow = cc
flow_space (Id n) flow = cc
flow_space (Block v s) flow = cc
flow_space (Member s k) flow = cc
flow_space (Captured q k) flow = cc

module _ (found : Key → Option Text) (names : AreNames found) where
  -- a name that is given begins with no reserved prefix
  no_prefix : (key : Key) (w : Text) → found key ≡ Some w → has_prefix w ≡ true → ⊥
  no_prefix key w is on = by_form (names.each key w is).free
    where
      never : (b : Bool) → b ≡ false → b ≡ true → ⊥
      never true off on = cc
      never false off on = cc

      by_form : ((key ≡ Main) × (w ≡ codes "main")) ⊎ IsFree w → ⊥
      by_form (inl main) = never (has_prefix w) (ap has_prefix main.1 ∙ main_free) on
      by_form (inr free) = never (has_prefix w) free.prefix on

  module _ (m : Naming) (keys : AreOfKeys found m) where
    -- a name of a key that is none of the function's own
    module _ (x : Text) (key : Key) (space : space_of key ≡ None) (is : found key ≡ Some x) where
      not_name : ((n : ℕ) → is_named m n ≡ true → key ≡ Id (id n) → ⊥) → (n : ℕ) → is_named m n ≡ true → x ≡ m.name n → ⊥
      not_name other n named same = other n named (names.apart key (Id (id n)) x space is (keys.name n named ∙ ap (λ w. Some w) (sym same)))

      not_index : ((q k : ℕ) → key ≡ Captured (id q) k → ⊥) → (q k : ℕ) → m.is_kept q k ≡ true → x ≡ m.index_name q k → ⊥
      not_index other q k kept same = other q k (names.apart key (Captured (id q) k) x space is (keys.index q k kept ∙ ap (λ w. Some w) (sym same)))

    not_both : (n : ℕ) (b : Bool) → b ≡ true → b ≡ false → ⊥
    not_both n true on off = cc
    not_both n false on off = cc

    outside_name : (x : Text) → IsOutside found m x → (n : ℕ) → is_named m n ≡ true → m.name n ≡ x → ⊥
    outside_name x (inl on) n named same = no_prefix (Id (id n)) (m.name n) (keys.name n named) (ap has_prefix same ∙ on)
    outside_name x (inr o) n named same = not_name x (Id (id o.0)) refl o.2 (λ k it e. not_both k (is_named m k) it (ap (is_named m) (sym (same_number o.0 k e)) ∙ o.1)) n named (sym same)

    outside_index : (x : Text) → IsOutside found m x → (q k : ℕ) → m.is_kept q k ≡ true → m.index_name q k ≡ x → ⊥
    outside_index x (inl on) q k kept same = no_prefix (Captured (id q) k) (m.index_name q k) (keys.index q k kept) (ap has_prefix same ∙ on)
    outside_index x (inr o) q k kept same = not_index x (Id (id o.0)) refl o.2 (λ r l e. no_chain o.0 r l e) q k kept (sym same)

    -- no name is another's
    pub names_apart : AreApart m
    names_apart = record {
      names = λ a b it that same. same_number a b (names.apart (Id (id a)) (Id (id b)) (m.name a) refl (keys.name a it) (keys.name b that ∙ ap (λ w. Some w) (sym same)));
      indexes = λ q k r l it that same.
          let own : Captured (id q) k ≡ Captured (id r) l = names.apart (Captured (id q) k) (Captured (id r) l) (m.index_name q k) refl (keys.index q k it) (keys.index r l that ∙ ap (λ w. Some w) (sym same)) in
          (same_chain q k r l own, same_index q k r l own);
      both = λ a q k it kept same. no_chain a q k (names.apart (Id (id a)) (Captured (id q) k) (m.name a) refl (keys.name a it) (keys.index q k kept ∙ ap (λ w. Some w) (sym same)));
      outside = λ x is. (λ n named same. outside_name x (keys.outside x is) n named same, λ q k kept same. outside_index x (keys.outside x is) q k kept same);
      once = keys.once;
      variables = keys.variables;
      lents = keys.lents;
      privates = keys.privates;
    }

    -- the name of a flag or of a spare is none of these
    outside_flow : (x y : Text) (key : Key) → is_flow key ≡ true → found key ≡ Some x → IsOutside found m y → x ≡ y → ⊥
    outside_flow x y key flow is (inl on) same = no_prefix key x is (ap has_prefix same ∙ on)
    outside_flow x y key flow is (inr o) same = flow_no_id key o.0 flow (names.apart key (Id (id o.0)) x (flow_space key flow) is (o.2 ∙ ap (λ w. Some w) (sym same)))

    pub flow_is_other : (key : Key) (x : Text) → is_flow key ≡ true → found key ≡ Some x → IsOther m x
    flow_is_other key x flow is = record {
      name = λ n named same. not_name x key (flow_space key flow) is (λ k it e. flow_no_id key k flow e) n named same;
      index = λ q k kept same. not_index x key (flow_space key flow) is (λ r l e. flow_no_chain key r l flow e) q k kept same;
      outside = λ y outside same. outside_flow x y key flow is (keys.outside y outside) same;
    }
