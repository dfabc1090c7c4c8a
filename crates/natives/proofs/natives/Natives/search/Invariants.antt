use Rattle.std.proofs.Common.{◌≡◌, map, drop}
use Rattle.natives.specs.Names.{has_name}
use Rattle.natives.proofs.natives.Natives.search.Given as goal

-- the name is among all where it is among those that are left
abbrev pub invariant-loop-native : goal.invariant-loop-native
invariant-loop-native g l =
    has_name (map (λ native. native.name) l.self.list.items) l.name ≡ has_name (map (λ native. native.name) (drop l.native-index l.native-items)) l.name
