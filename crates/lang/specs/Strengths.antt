-- What the modes are strong enough for: the release side, the acquire side, and the order of sc.
use Rattle.std.specs.Prelude.{Bool, true, false}
use Rattle.lang.specs.declared.syntax.Mode.{Mode}
use Rattle.lang.specs.declared.syntax.Mode.TheVariants.{Relaxed, Acquire, Release, AcquireRelease, SeqCst}

abbrev pub is_release : Mode → Bool
is_release m = elim m [ Relaxed ↦ false | Acquire ↦ false | Release ↦ true | AcquireRelease ↦ true | SeqCst ↦ true ]

abbrev pub is_acquire : Mode → Bool
is_acquire m = elim m [ Relaxed ↦ false | Acquire ↦ true | Release ↦ false | AcquireRelease ↦ true | SeqCst ↦ true ]

abbrev pub is_sc : Mode → Bool
is_sc m = elim m [ Relaxed ↦ false | Acquire ↦ false | Release ↦ false | AcquireRelease ↦ false | SeqCst ↦ true ]
