use Rattle.sha256.proofs.Window.{place-fits, offset_fits, place_in_table, no_round, one_more_round}
use Rattle.std.proofs.Common.{refl}
use Rattle.sha256.proofs.block.sixteen_rounds.Goals as goal

pub overflow_add-t : goal.overflow_add-t
overflow_add-t c = place-fits c.args.t 0 c.requires refl

pub offset_bounds-k-t : goal.offset_bounds-k-t
offset_bounds-k-t c = offset_fits c.args.t 0 c.requires refl

pub bounds-k-t : goal.bounds-k-t
bounds-k-t c = place_in_table c.args.t 0 c.requires refl

pub overflow_add-t-2 : goal.overflow_add-t-2
overflow_add-t-2 c = place-fits c.args.t 1 c.requires refl

pub offset_bounds-k-t-2 : goal.offset_bounds-k-t-2
offset_bounds-k-t-2 c = offset_fits c.args.t 1 c.requires refl

pub bounds-k-t-2 : goal.bounds-k-t-2
bounds-k-t-2 c = place_in_table c.args.t 1 c.requires refl

pub overflow_add-t-3 : goal.overflow_add-t-3
overflow_add-t-3 c = place-fits c.args.t 2 c.requires refl

pub offset_bounds-k-t-3 : goal.offset_bounds-k-t-3
offset_bounds-k-t-3 c = offset_fits c.args.t 2 c.requires refl

pub bounds-k-t-3 : goal.bounds-k-t-3
bounds-k-t-3 c = place_in_table c.args.t 2 c.requires refl

pub overflow_add-t-4 : goal.overflow_add-t-4
overflow_add-t-4 c =
    let pre = c.requires in
    let args = c.args in
    place-fits args.t 3 pre refl

pub offset_bounds-k-t-4 : goal.offset_bounds-k-t-4
offset_bounds-k-t-4 c =
    let pre = c.requires in
    let args = c.args in
    offset_fits args.t 3 pre refl

pub bounds-k-t-4 : goal.bounds-k-t-4
bounds-k-t-4 c =
    let pre = c.requires in
    let args = c.args in
    place_in_table args.t 3 pre refl

pub overflow_add-t-5 : goal.overflow_add-t-5
overflow_add-t-5 c =
    let pre = c.requires in
    let args = c.args in
    place-fits args.t 4 pre refl

pub offset_bounds-k-t-5 : goal.offset_bounds-k-t-5
offset_bounds-k-t-5 c =
    let pre = c.requires in
    let args = c.args in
    offset_fits args.t 4 pre refl

pub bounds-k-t-5 : goal.bounds-k-t-5
bounds-k-t-5 c =
    let pre = c.requires in
    let args = c.args in
    place_in_table args.t 4 pre refl

pub overflow_add-t-6 : goal.overflow_add-t-6
overflow_add-t-6 c =
    let pre = c.requires in
    let args = c.args in
    place-fits args.t 5 pre refl

pub offset_bounds-k-t-6 : goal.offset_bounds-k-t-6
offset_bounds-k-t-6 c =
    let pre = c.requires in
    let args = c.args in
    offset_fits args.t 5 pre refl

pub bounds-k-t-6 : goal.bounds-k-t-6
bounds-k-t-6 c =
    let pre = c.requires in
    let args = c.args in
    place_in_table args.t 5 pre refl

pub overflow_add-t-7 : goal.overflow_add-t-7
overflow_add-t-7 c =
    let pre = c.requires in
    let args = c.args in
    place-fits args.t 6 pre refl

pub offset_bounds-k-t-7 : goal.offset_bounds-k-t-7
offset_bounds-k-t-7 c =
    let pre = c.requires in
    let args = c.args in
    offset_fits args.t 6 pre refl

pub bounds-k-t-7 : goal.bounds-k-t-7
bounds-k-t-7 c =
    let pre = c.requires in
    let args = c.args in
    place_in_table args.t 6 pre refl

pub overflow_add-t-8 : goal.overflow_add-t-8
overflow_add-t-8 c =
    let pre = c.requires in
    let args = c.args in
    place-fits args.t 7 pre refl

pub offset_bounds-k-t-8 : goal.offset_bounds-k-t-8
offset_bounds-k-t-8 c =
    let pre = c.requires in
    let args = c.args in
    offset_fits args.t 7 pre refl

pub bounds-k-t-8 : goal.bounds-k-t-8
bounds-k-t-8 c =
    let pre = c.requires in
    let args = c.args in
    place_in_table args.t 7 pre refl

pub overflow_add-t-9 : goal.overflow_add-t-9
overflow_add-t-9 c =
    let pre = c.requires in
    let args = c.args in
    place-fits args.t 8 pre refl

pub offset_bounds-k-t-9 : goal.offset_bounds-k-t-9
offset_bounds-k-t-9 c =
    let pre = c.requires in
    let args = c.args in
    offset_fits args.t 8 pre refl

pub bounds-k-t-9 : goal.bounds-k-t-9
bounds-k-t-9 c =
    let pre = c.requires in
    let args = c.args in
    place_in_table args.t 8 pre refl

pub overflow_add-t-10 : goal.overflow_add-t-10
overflow_add-t-10 c =
    let pre = c.requires in
    let args = c.args in
    place-fits args.t 9 pre refl

pub offset_bounds-k-t-10 : goal.offset_bounds-k-t-10
offset_bounds-k-t-10 c =
    let pre = c.requires in
    let args = c.args in
    offset_fits args.t 9 pre refl

pub bounds-k-t-10 : goal.bounds-k-t-10
bounds-k-t-10 c =
    let pre = c.requires in
    let args = c.args in
    place_in_table args.t 9 pre refl

pub overflow_add-t-11 : goal.overflow_add-t-11
overflow_add-t-11 c =
    let pre = c.requires in
    let args = c.args in
    place-fits args.t 10 pre refl

pub offset_bounds-k-t-11 : goal.offset_bounds-k-t-11
offset_bounds-k-t-11 c =
    let pre = c.requires in
    let args = c.args in
    offset_fits args.t 10 pre refl

pub bounds-k-t-11 : goal.bounds-k-t-11
bounds-k-t-11 c =
    let pre = c.requires in
    let args = c.args in
    place_in_table args.t 10 pre refl

pub overflow_add-t-12 : goal.overflow_add-t-12
overflow_add-t-12 c =
    let pre = c.requires in
    let args = c.args in
    place-fits args.t 11 pre refl

pub offset_bounds-k-t-12 : goal.offset_bounds-k-t-12
offset_bounds-k-t-12 c =
    let pre = c.requires in
    let args = c.args in
    offset_fits args.t 11 pre refl

pub bounds-k-t-12 : goal.bounds-k-t-12
bounds-k-t-12 c =
    let pre = c.requires in
    let args = c.args in
    place_in_table args.t 11 pre refl

pub overflow_add-t-13 : goal.overflow_add-t-13
overflow_add-t-13 c =
    let pre = c.requires in
    let args = c.args in
    place-fits args.t 12 pre refl

pub offset_bounds-k-t-13 : goal.offset_bounds-k-t-13
offset_bounds-k-t-13 c =
    let pre = c.requires in
    let args = c.args in
    offset_fits args.t 12 pre refl

pub bounds-k-t-13 : goal.bounds-k-t-13
bounds-k-t-13 c =
    let pre = c.requires in
    let args = c.args in
    place_in_table args.t 12 pre refl

pub overflow_add-t-14 : goal.overflow_add-t-14
overflow_add-t-14 c =
    let pre = c.requires in
    let args = c.args in
    place-fits args.t 13 pre refl

pub offset_bounds-k-t-14 : goal.offset_bounds-k-t-14
offset_bounds-k-t-14 c =
    let pre = c.requires in
    let args = c.args in
    offset_fits args.t 13 pre refl

pub bounds-k-t-14 : goal.bounds-k-t-14
bounds-k-t-14 c =
    let pre = c.requires in
    let args = c.args in
    place_in_table args.t 13 pre refl

pub overflow_add-t-15 : goal.overflow_add-t-15
overflow_add-t-15 c =
    let pre = c.requires in
    let args = c.args in
    place-fits args.t 14 pre refl

pub offset_bounds-k-t-15 : goal.offset_bounds-k-t-15
offset_bounds-k-t-15 c =
    let pre = c.requires in
    let args = c.args in
    offset_fits args.t 14 pre refl

pub bounds-k-t-15 : goal.bounds-k-t-15
bounds-k-t-15 c =
    let pre = c.requires in
    let args = c.args in
    place_in_table args.t 14 pre refl

pub overflow_add-t-16 : goal.overflow_add-t-16
overflow_add-t-16 c =
    let pre = c.requires in
    let args = c.args in
    place-fits args.t 15 pre refl

pub offset_bounds-k-t-16 : goal.offset_bounds-k-t-16
offset_bounds-k-t-16 c =
    let pre = c.requires in
    let args = c.args in
    offset_fits args.t 15 pre refl

pub bounds-k-t-16 : goal.bounds-k-t-16
bounds-k-t-16 c =
    let pre = c.requires in
    let args = c.args in
    place_in_table args.t 15 pre refl

pub returns : goal.returns
returns c =
    let round = c.round-v1.ensures in
    let round2 = c.round-v2.ensures in
    let round3 = c.round-v3.ensures in
    let round4 = c.round-v4.ensures in
    let round5 = c.round-v5.ensures in
    let round6 = c.round-v6.ensures in
    let round7 = c.round-v7.ensures in
    let round8 = c.round-v8.ensures in
    let round9 = c.round-v9.ensures in
    let round10 = c.round-v10.ensures in
    let round11 = c.round-v11.ensures in
    let round12 = c.round-v12.ensures in
    let round13 = c.round-v13.ensures in
    let round14 = c.round-v14.ensures in
    let round15 = c.round-v15.ensures in
    one_more_round 15 _ _ _ _ _ _ (one_more_round 14 _ _ _ _ _ _
    (one_more_round 13 _ _ _ _ _ _ (one_more_round 12 _ _ _ _ _ _
    (one_more_round 11 _ _ _ _ _ _ (one_more_round 10 _ _ _ _ _ _
    (one_more_round 9 _ _ _ _ _ _ (one_more_round 8 _ _ _ _ _ _
    (one_more_round 7 _ _ _ _ _ _ (one_more_round 6 _ _ _ _ _ _
    (one_more_round 5 _ _ _ _ _ _ (one_more_round 4 _ _ _ _ _ _
    (one_more_round 3 _ _ _ _ _ _ (one_more_round 2 _ _ _ _ _ _
    (one_more_round 1 _ _ _ _ _ _ (one_more_round 0 _ _ _ _ _ _ (no_round _ _ _ _) round) round2) round3) round4) round5) round6)
    round7) round8) round9) round10) round11) round12) round13) round14) round15) c.round-v16.ensures
