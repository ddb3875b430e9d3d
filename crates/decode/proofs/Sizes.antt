-- The sizes fit the counts and the allowance, and every pair of sizes that fits falls short of them by the same s.
use Rattle.std.proofs.Common.{◌≡◌, ℕ, ◌+◌, ◌-◌, ◌<◌, ◌≤◌, arith}
use Rattle.decode.specs.Sizes.{far, gone_size, come_size}

pub sizes_count : (many count d : ℕ) → many + gone_size many count d ≡ count + come_size many count d
sizes_count many count d = omega arith

pub sizes_within : (many count d : ℕ) → far many count ≤ d → gone_size many count d + come_size many count d ≤ d
sizes_within many count d near = omega arith

pub sizes_largest : (many count d g c : ℕ)
    → many + g ≡ count + c
    → g + c ≤ d
    → (s : ℕ) × (gone_size many count d ≡ g + s) × (come_size many count d ≡ c + s)
sizes_largest many count d g c e few = (gone_size many count d - g, omega arith, omega arith)

-- counts that are more than d apart
pub sizes_too_far : (many count d g c : ℕ) → d < far many count → many + g ≡ count + c → g + c ≤ d → ⊥
sizes_too_far many count d g c apart e few = omega arith

-- where an explanation is, the counts are near
pub sizes_near : (many count d g c : ℕ) → many + g ≡ count + c → g + c ≤ d → far many count ≤ d
sizes_near many count d g c e few = omega arith
