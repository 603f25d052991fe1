mod TwoNodes
