use Rattle.ndc_explain_top.proofs.fault.tell_spot.Goals as goal

pub returns-in-None-clause-front : goal.returns-in-None-clause-front
returns-in-None-clause-front g c =
    rw (c.in-Some.is, c.in-None.is) (rw (c.as_slice.ensures, c.as_bytes-number.ensures.value, c.format.ensures.text) at c.write_pieces.ensures.front)

pub returns-in-Some-cluster-clause-front : goal.returns-in-Some-cluster-clause-front
returns-in-Some-cluster-clause-front g c =
    rw (c.in-Some.is, c.in-Some-cluster.is)
    (rw (c.as_slice-in-Some-cluster.ensures, c.as_bytes-number.ensures.value, c.format.ensures.text, c.as_slice-in-Some-cluster-2.ensures, c.as_bytes.ensures.bytes)
    at c.write_pieces-in-Some-cluster.ensures.front)
