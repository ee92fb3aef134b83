mod Raising
