-- The limits of the files, as the readers ask for them.
use Rattle.std.proofs.Common.{◌≡◌, ◌<◌, ◌≤◌, ℕ, List, length, map, get_or, subst, arith, Vec}
use Rattle.std.specs.declared.alloc.Global.{Global}
use Rattle.std.specs.Prelude.{All}
use Rattle.std.proofs.lemmas.List.{length-map, get_or-map}
use Rattle.irs_base.specs.Limits.{most_bytes}
use Rattle.irs_answers.specs.Forms.{too_many}

-- the calendar files as the code keeps them have fewer bytes than the limit
pub all_small : (vs : List (Vec ℕ Global)) → All (λ bytes. length bytes < too_many) (map (λ v. v.items) vs)
    → All (λ v. length v.items ≤ most_bytes) vs
all_small vs h = λ k d below.
    let below' : k < length (map (λ (v : Vec ℕ Global). v.items) vs) =
    rw (length-map vs (λ (v : Vec ℕ Global). v.items)) below in
    let small : length (get_or (map (λ (v : Vec ℕ Global). v.items) vs) k d.items) < too_many = h k d.items below' in
    let same : get_or (map (λ (v : Vec ℕ Global). v.items) vs) k d.items ≡ (get_or vs k d).items =
    get_or-map (λ (v : Vec ℕ Global). v.items) vs k d d.items below in
    let short : length (get_or vs k d).items < too_many = subst (λ (l : List ℕ). length l < too_many) same small in
    omega (arith, short)
