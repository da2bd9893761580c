-- The definitions, computed.
use Rattle.std.proofs.Common.{◌≡◌, [], ◌∷◌, refl}
use Rattle.std.specs.Prelude.{codes, Some, None}
use Rattle.dispatch_case.specs.Written.{case_of}

all_parts : case_of (codes "groups=1,2,3;buffer=0.0:5,0;buffer=0.1:6;push=7;first=1,0;steps=9") ≡ Some (record { groups = (1, 2, 3); buffers = (0, 0, 5 ∷ 0 ∷ []) ∷ (0, 1, 6 ∷ []) ∷ []; push = 7 ∷ []; first = 1 ∷ 0 ∷ []; steps = 9 })
all_parts = refl

fewest_parts : case_of (codes "groups=1024,1,1;steps=100000") ≡ Some (record { groups = (1024, 1, 1); buffers = []; push = []; first = []; steps = 100000 })
fewest_parts = refl

no_steps : case_of (codes "groups=1,1,1") ≡ None
no_steps = refl

no_workgroup : case_of (codes "groups=1,0,1;steps=1") ≡ None
no_workgroup = refl

too_many_workgroups : case_of (codes "groups=1025,1,1;steps=1") ≡ None
too_many_workgroups = refl

a_leading_zero : case_of (codes "groups=1,1,1;steps=01") ≡ None
a_leading_zero = refl

no_number : case_of (codes "groups=1,1,1;push=;steps=1") ≡ None
no_number = refl

a_buffer_twice : case_of (codes "groups=1,1,1;buffer=0.0:1;buffer=0.0:2;steps=1") ≡ None
a_buffer_twice = refl

out_of_order : case_of (codes "groups=1,1,1;first=0;push=1;steps=1") ≡ None
out_of_order = refl
